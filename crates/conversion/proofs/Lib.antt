-- The laws of the conversion, and the ways through its code; `pub mod` lets other crates cite a file.
pub mod ConversionLaws
mod CleanWays

-- The laws of columns, and the ways through the code; `pub mod` lets other crates cite a file.
pub mod Alike
pub mod ColumnLaws
pub mod Integers
pub mod LooseReals
pub mod ExactReals
pub mod PlacedLaws
mod ColumnWays

-- The laws of `heading` and the ways through its code; `pub mod` lets other crates cite a file.
pub mod HeadingLaws
pub mod HeadingWays

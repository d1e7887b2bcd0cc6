-- The laws of `writer` and the ways through its code; `pub mod` lets other crates cite a file.
pub mod WriteLaws
pub mod SizeLaws
pub mod Putting
pub mod RowFacts
mod RowWays
mod Sizes
pub mod Walk
mod HeaderWays
pub mod SheetWays

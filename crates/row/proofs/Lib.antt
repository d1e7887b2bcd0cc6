-- The laws of `row` and the ways through its code; `pub mod` lets other crates cite a file.
pub mod Walk
pub mod SeekLaws
pub mod UsedLaws
pub mod StartLaws
pub mod NextWays
mod SeekWays

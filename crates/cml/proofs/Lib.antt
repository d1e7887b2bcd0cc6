-- The laws of `cml` and the ways through its code; `pub mod` lets other crates cite a file.
pub mod CoordLaws
pub mod ElementLaws
pub mod CmlLaws
mod PairWays
mod LineWays
mod Walk

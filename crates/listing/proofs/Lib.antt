-- The ways through the functions that put the listing together, and its length.
mod LineWays
pub mod ListLaws
pub mod ReadWays
pub mod Sound
pub mod LimitLaws

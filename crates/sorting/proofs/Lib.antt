-- The laws of sorting by exchanges, over any order and then over lines, and the ways through the code.
pub mod SwapLaws
pub mod LineLaws
pub mod SortedLaws
mod SinkLaws
mod CodeWays

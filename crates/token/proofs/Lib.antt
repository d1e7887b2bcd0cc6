-- The laws of `token` and the ways through its code; `pub mod` lets other crates cite a file.
pub mod TokenWays
pub mod TokenLaws

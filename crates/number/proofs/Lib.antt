-- The laws of `number` and the ways through its code; `pub mod` lets other crates cite a file.
pub mod WordWays
pub mod WordLaws
pub mod IntegerWays
pub mod RealWays
pub mod NumberLaws

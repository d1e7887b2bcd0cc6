-- The laws of `quick` and the ways through its code; `pub mod` lets other crates cite a file.
pub mod Twelve
pub mod Tokens
pub mod Places
pub mod Leading
pub mod Fours
pub mod LooseIntegers
pub mod Lanes
pub mod WordLaws
pub mod NeighbourLaws
pub mod TailLaws
pub mod UsualLaws

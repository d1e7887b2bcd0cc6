-- The laws of a checked SUP file, and the ways through the code.
pub mod RightLaws
pub mod DueLaws
pub mod AcceptLaws
pub mod NoneLaws
pub mod WrittenLaws
mod WalkingWays
mod AllowingWays
mod CheckedWays

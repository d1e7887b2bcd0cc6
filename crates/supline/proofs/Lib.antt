-- The laws of a line that came with a delivery, and the ways through the code.
pub mod SaidLaws
pub mod LineLaws
pub mod NearWays
mod ReadingWays
mod RightWays

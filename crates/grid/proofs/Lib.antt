-- The laws of the definitions of crate `grid`, and the ways through its code; the functions' proofs stand in folders of their names.
pub mod WordLaws
pub mod OddLaws
pub mod NearLaws
pub mod HoldLaws
pub mod CellLaws
pub mod CornerLaws
pub mod SameLaws
mod CentreWays
mod SpanWays
mod EdgeWays
mod CheckWays
mod RingWays
mod CellWays

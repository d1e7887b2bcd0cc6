-- The laws of the definitions of crate `mask`, and the ways through its code; the functions' proofs stand in folders of their names.
pub mod CoverLaws
pub mod RefusedLaws
pub mod SameLaws
pub mod UsedLaws
mod CountWays
mod WidthWays
mod TurnWays
mod MaskWays

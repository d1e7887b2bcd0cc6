-- The laws of the definitions of crate `plane`; the functions' proofs stand in folders of their names.
pub mod RingLaws
pub mod AreaLaws
mod AreaWays
mod FrameWays
pub mod AlikeLaws
pub mod MovedLaws
pub mod OwnLaws

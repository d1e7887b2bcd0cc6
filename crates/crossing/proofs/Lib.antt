-- The laws of the definitions of crate `crossing`; the functions' proofs stand in folders of their names.
mod EdgeLaws
mod SkipLaws
mod BoxLaws
pub mod SearchLaws
pub mod VerdictLaws
pub mod AlikeLaws
pub mod SharedLaws
pub mod NeighbourLaws
pub mod MeetLaws
pub mod SimpleLaws

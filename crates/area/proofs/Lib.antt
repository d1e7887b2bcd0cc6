-- The laws of the definitions of crate `area`; the functions' proofs stand in folders of their names.
pub mod AreaLaws
pub mod QuestionLaws
pub mod RefusedLaws
pub mod UsedLaws
mod AreaWays
pub mod QuestionWays

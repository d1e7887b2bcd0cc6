-- The laws that others cite.
pub mod BorderLaws
pub mod OtherLaws
pub mod RefusedLaws
pub mod UsedLaws

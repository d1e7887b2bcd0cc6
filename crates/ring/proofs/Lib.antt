-- The laws of `ring`; `pub mod` lets other crates cite a file.
pub mod RefusedLaws
pub mod UsedLaws

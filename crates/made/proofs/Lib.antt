-- The laws of `made` and the ways through the functions that judge a sheet; `pub mod` lets other crates cite a file.
mod FieldWays
pub mod NumberWays
pub mod TableWays
pub mod RowWays
pub mod OwnLaws
pub mod UsedLaws
pub mod StartLaws
mod JudgeWays

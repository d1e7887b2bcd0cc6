-- The laws of `tally` and the ways through its code; `pub mod` lets other crates cite a file.
pub mod TallyLaws
pub mod RefusedLaws
pub mod TallyWays
pub mod AddWays
pub mod TakeWays
pub mod Tallying
pub mod SumLaws
pub mod OwnLaws
pub mod UsedLaws
pub mod TallyJoin
pub mod CountLaws
pub mod OtherLaws
pub mod JoinedTallies
pub mod RunningLaws
pub mod LentLaws

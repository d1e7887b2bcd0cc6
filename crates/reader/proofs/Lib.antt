-- The laws of `reader` and the ways through its code; `pub mod` lets other crates cite a file.
mod Rings
mod Standing
mod Aiming
mod Filling
mod Storing
mod Turning
mod Running
mod Fields
mod HeadTurns
mod HeadRecords
mod HeadWays
mod Judging
mod Filled
mod Trusted
mod HeadTrust
mod Rows
mod RingLaws
mod RowLoops
mod OnlyRing
mod Answering
pub mod Bytes
pub mod ReadLaws
pub mod ColumnLaws
pub mod NeedLaws
pub mod EnoughLaws

-- The laws of `edit` and the ways through its code; `pub mod` lets other crates cite a file.
mod PartWays
mod PlaceWays
pub mod RowMoves
mod RowLoops
mod PointMoves
mod SheetMoves
mod CloseWays
mod LowerWays
mod FallLaws
pub mod ColumnLaws
mod RemoveWays
pub mod MoveLaws
pub mod BackLaws
pub mod RemoveLaws

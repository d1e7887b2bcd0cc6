-- The proofs of `order`; the laws are open to other crates. `OrderLaws` says that the list is sorted and the same borders.
mod ClipLaws
mod ByteWays
mod ChoosingWays
pub mod EachLaws
mod PlaceWays
mod ShiftWays
pub mod CompareLaws
pub mod SortLaws
pub mod TotalLaws
mod GuideLaws
mod WindowWays
mod CountWays
mod LongWays
pub mod OrderLaws
pub mod RowsLaws
pub mod WindowLaws
pub mod LongLaws
pub mod TurnLaws

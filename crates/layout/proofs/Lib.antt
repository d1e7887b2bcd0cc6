-- The laws of `layout`; `pub mod` lets other crates cite a file.
mod Contents
mod RingPass
mod FieldPass
pub mod RowPass
pub mod WrittenLaws
mod ScheduleLaws
mod TokenSays
mod Tails
mod RingTails
mod FieldTails
pub mod TextLaws
mod MadeRows
mod PassRows
pub mod ReadMade
pub mod ReadWritten
pub mod UsedLaws

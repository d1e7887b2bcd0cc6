-- To read beside document 01, "Sheet tables": the column of a refusal (document 02, T-04), the answer of a reading, and the lent tables at exit. (`judged_of` of `Read` serves a private contract.)
pub mod Columns
pub mod Read
pub mod Exit
pub mod ExitExamples
-- For private contracts alone: one record further, and what it stores.
pub mod Turn
pub mod Store
pub mod Trust
pub mod RingRun
pub mod Heads

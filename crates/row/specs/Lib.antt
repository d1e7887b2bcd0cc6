-- To read beside document 01, "Sheet tables" and "Refusal numbers", and document 02, T-07: where a row stands, the row that is sought, a row handed in alone.
-- `word_most` and `Stands` of `Walk` serve private contracts alone.
pub mod Walk
pub mod Seek
pub mod Alone
pub mod Examples
pub mod AloneExamples

-- To read beside document 02, T-04, in this order: what a column is, the columns of numbers and refusals, and their examples.
-- `Spots` is how they are found: laws say that it is so.
pub mod Column
pub mod Spots
pub mod Columns
pub mod Examples

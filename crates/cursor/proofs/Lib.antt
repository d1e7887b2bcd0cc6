-- The theorems of a cursor, and the ways through the code of `nth`.
pub mod CursorLaws
mod CursorWays

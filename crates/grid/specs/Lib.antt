-- To read beside document 02, T-03: which centres lie inside a ring, a row of cells as a number, the cells of a ring.
pub mod Inside
pub mod Words
pub mod Cells
pub mod Examples
-- The same ring in other tables, for laws: begun elsewhere, turned round, moved.
pub mod Same
-- For private contracts alone: the rule as the code has it, from the grid's corner.
pub mod Trace

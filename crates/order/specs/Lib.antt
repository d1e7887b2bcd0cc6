-- To read beside document 02, T-01 and T-10: which of two comes first, lists in order, the borders that a SUP file lists, their order, windows
-- on it, examples.
pub mod Compare
pub mod Sorting
pub mod SupBorders
pub mod SupOrder
pub mod Windows
pub mod Examples
-- For private contracts alone: whether a window takes a row in.
pub mod WindowTurn

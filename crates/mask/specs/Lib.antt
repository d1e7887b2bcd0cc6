-- To read beside document 02, T-03: which centres lie inside a border, and the mask of a border of a sheet.
pub mod Covers
pub mod Masks
pub mod Examples
-- For laws: a border whose rings are begun elsewhere or turned round.
pub mod Redrawn
-- For private contracts alone.
pub mod Width

-- To read beside document 02, T-10: a right line and what it allows, the lines that are due, the answer, examples.
pub mod Due
pub mod Checked
pub mod Allowed
pub mod Examples
-- For private contracts alone:
pub mod Walking

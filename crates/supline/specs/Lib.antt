-- To read beside document 02, T-10: what stands in a line, its form, what it allows.
pub mod Right

-- To read beside document 02, T-13:
pub mod Clean
pub mod Examples

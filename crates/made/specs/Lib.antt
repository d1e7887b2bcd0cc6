-- To read beside document 01, "Sheet tables":
pub mod Made
pub mod Examples
-- For private contracts alone:
pub mod Turn

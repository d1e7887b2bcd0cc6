-- To read beside document 01, "Records":
pub mod Refusals
pub mod Record
-- What a record that is found looks like, for the laws:
pub mod RecordView
-- For private contracts alone:
pub mod Scan

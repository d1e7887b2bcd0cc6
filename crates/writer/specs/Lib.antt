-- To read beside document 01, "Refusal numbers": what the writer answers and stores.
pub mod Write
pub mod Examples
-- For private contracts alone:
pub mod Put

-- To read beside document 02, T-01: lines in the order of their bytes.
pub mod Lines
-- For private contracts alone: lines that were exchanged, and how far they are in order.
pub mod Exchanges

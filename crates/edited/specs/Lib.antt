-- Texts and figures of rows, put together: for the laws alone.
pub mod Together

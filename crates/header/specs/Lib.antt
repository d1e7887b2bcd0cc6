-- The definitions of headers, and their examples.
pub mod Header
pub mod Examples

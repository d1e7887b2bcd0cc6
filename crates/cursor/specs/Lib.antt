-- The definitions of a cursor, and their examples.
pub mod Cursor
pub mod Examples

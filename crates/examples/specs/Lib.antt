-- The definitions of `examples`, in the order to read them.
pub mod Marked

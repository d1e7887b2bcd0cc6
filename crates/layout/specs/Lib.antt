-- The definitions of `layout`, in the order to read them, and their examples.
pub mod Sheet
pub mod Examples

-- The definitions of `heading`, in the order to read them, and their examples.
pub mod Heading
pub mod Examples

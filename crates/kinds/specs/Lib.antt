-- The definitions of `kinds`, in the order to read them, and their examples.
pub mod Kinds
pub mod Digits
pub mod Examples

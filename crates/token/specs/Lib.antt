-- The definitions of `token`, in the order to read them, and their examples.
pub mod Lex
pub mod Examples

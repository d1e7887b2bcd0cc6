-- The laws of the definitions of crate `tile`; the functions' proofs stand in folders of their names.
mod Frame
pub mod Exact

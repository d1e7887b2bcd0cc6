-- The laws of `laws`; `pub mod` lets other crates cite a file.
pub mod Choice
pub mod ListLaws
pub mod Packed
pub mod TableLaws
pub mod Chains
pub mod Parts
pub mod Bounds
pub mod Bits
pub mod Products

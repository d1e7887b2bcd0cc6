-- The laws of `sheet`; `pub mod` lets other crates cite a file.
pub mod StartLaws
pub mod Okay
pub mod Pass
pub mod Whole
pub mod Meaning
pub mod Modes
pub mod Join
pub mod Alone
pub mod First
pub mod Located
pub mod Numbered
pub mod Stored
pub mod Notes

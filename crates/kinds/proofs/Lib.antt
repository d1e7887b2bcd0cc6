-- The laws of `kinds` and the ways through its code; `pub mod` lets other crates cite a file.
pub mod KindLaws

-- The laws of `machine` and the ways through its code; `pub mod` lets other crates cite a file.
pub mod MachineWays

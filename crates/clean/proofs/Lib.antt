-- The laws of T-13: over bytes, then of the two functions' contracts.
pub mod CleanLaws
pub mod CleanRun
pub mod CleanCalls

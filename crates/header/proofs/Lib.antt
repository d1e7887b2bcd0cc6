-- The theorems on headers, and the ways of the code.
pub mod HeadLaws
pub mod HeadWays

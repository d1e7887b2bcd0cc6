-- To read beside document 01, "Ring check": the tests, the search, a ring that is simple in the paper's words.
-- `span` and `Close` of `Edges` and `FirstFault` of `Search` serve private contracts alone.
pub mod Edges
pub mod Search
pub mod Shared
pub mod SimpleRing
pub mod Examples
-- For private contracts alone: boxes round blocks of edges that are passed over.
pub mod Boxes

-- To read beside document 01, "Areas": a tally, a border taken, the tally of a sheet, its sum, and borders taken one by one.
-- What serves private contracts alone stands in the last part of `Tally` (figures in place) and in `Took` of `Take`.
pub mod Tally
pub mod Take
pub mod Sums
pub mod InTurn
pub mod Examples

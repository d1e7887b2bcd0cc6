-- To read beside document 02, T-08: what is answered; a sheet that is moved; a sheet that a row is taken out of; examples.
pub mod Answers
pub mod Rows
pub mod Moves
pub mod MoveExamples
pub mod Removals
pub mod RemoveExamples
pub mod Elements
-- For private contracts alone:
pub mod Used
pub mod Closing

-- To read beside document 02, T-01, and the specification's section 1.2: square metres, the date, a line, the lines of a SUP file, the answer, its exact areas.
pub mod Metres
pub mod Date
pub mod Lines
pub mod Sup
pub mod Answer
pub mod ExactAreas
pub mod ListedSums
pub mod Examples
pub mod AnswerExamples
pub mod SheetExamples
-- For private contracts alone (`total_of` of `Totals` for `ExactAreas` as well):
pub mod Printing
pub mod Totals
pub mod Raw

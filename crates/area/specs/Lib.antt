-- To read beside document 01, "Areas": a border's rings, and the questions on a sheet.
pub mod BorderRings
pub mod Questions
pub mod Examples
pub mod QuestionExamples

-- The cases, theorems, ways and examples of records.
pub mod RecordCases
pub mod RecordLaws
pub mod RecordWays
pub mod RecordExamples

-- To read beside document 01, "Sections" and "Sheet tables", in this order: the tables, what the bytes of a file mean, the refusal that comes first, and (02, T-09) the notes that loose mode refuses.
pub mod Tables
pub mod Reading
pub mod First
pub mod Notes
pub mod Examples
pub mod FirstExamples

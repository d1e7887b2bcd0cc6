-- A row as a border or a text; the questions on a sheet; examples.
pub mod Borders
pub mod BorderAt
pub mod TextAt
pub mod Examples

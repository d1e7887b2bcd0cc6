-- To read beside document 02, T-09: the text of the conversion, and its examples.
pub mod Conversion
pub mod Examples

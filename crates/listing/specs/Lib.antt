-- To read beside document 01, "Listing program": its text; what `list_text` answers. `text_most` and `UsedFits` of `Listed` serve private contracts alone.
pub mod Listing
pub mod Listed
pub mod Examples

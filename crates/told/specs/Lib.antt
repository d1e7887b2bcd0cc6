-- To read beside `include/cxf.h`: what a caller in C asks, and the library's answers as its structs. (`no_border` and `no_ring` of `Answers`, `sup_laid` of `SupFiles`, `checked_laid` of `SupChecks`, `mask_figures_laid` and `mask_figures_of` of `Masks`, `edit_laid` of `Edits` serve private contracts.)
pub mod Asked
pub mod Told
pub mod Answers
pub mod Tallies
pub mod SupFiles
pub mod SupChecks
pub mod Masks
pub mod Edits

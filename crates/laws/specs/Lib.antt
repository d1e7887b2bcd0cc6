-- The definitions of `laws`, in the order to read them.
pub mod Lists
pub mod Text
pub mod Whole

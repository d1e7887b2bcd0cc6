-- The laws of OTHER.
pub mod ClassLaws

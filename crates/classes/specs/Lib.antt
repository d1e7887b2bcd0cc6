-- The classes by their letters, the former rule, and examples.
pub mod Classes
pub mod Former
pub mod Examples

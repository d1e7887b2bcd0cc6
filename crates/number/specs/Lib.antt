-- The definitions of `number`, in the order to read them.
pub mod Words
pub mod Number
pub mod Examples

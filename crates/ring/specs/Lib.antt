-- The definitions of `ring`, in the order to read them, and their examples.
pub mod RingCheck
pub mod Examples

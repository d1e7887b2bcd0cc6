-- The definitions of `machine`, in the order to read them, and their examples.
pub mod Machine
pub mod Examples

-- Laws of this crate's definitions, on plain values.
pub mod Ends
pub mod Files
pub mod First

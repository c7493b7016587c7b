-- Laws of this crate's definitions, on plain values.
pub mod Plain
pub mod Separate
mod Ends

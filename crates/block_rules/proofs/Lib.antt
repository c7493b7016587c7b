-- Laws of this crate's definitions, on plain values.
pub mod Blocks
pub mod Ranges

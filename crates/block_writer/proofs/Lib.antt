-- Laws of this crate's definitions, on plain values.
pub mod Words
pub mod Blocks

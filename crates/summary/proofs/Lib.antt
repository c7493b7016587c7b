-- Laws of this crate's definitions, on plain values.
pub mod Parts
pub mod Agree

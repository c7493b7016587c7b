-- Laws of this crate's definitions, on plain values.
pub mod Bytes
pub mod Texts

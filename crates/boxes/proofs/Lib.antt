-- Laws of this crate's definitions, on plain values.
pub mod Numbers
pub mod Clips
pub mod Constants

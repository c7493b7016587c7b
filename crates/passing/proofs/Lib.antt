-- Laws of this crate's definitions, on plain values.
pub mod Spans
pub mod Clear
pub mod Bounds
pub mod Four

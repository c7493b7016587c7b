-- Laws of this crate's definitions, on plain values.
pub mod Text
pub mod Back
pub mod Room

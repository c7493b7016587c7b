-- Laws of this crate's definitions, on plain values.
pub mod Halves
pub mod Confirmed
pub mod Shift
pub mod Gap
pub mod Pattern
pub mod Near
pub mod Unique
pub mod Roots
pub mod Ends

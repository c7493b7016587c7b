-- Laws of this crate's definitions, on plain values.
pub mod Ranges
pub mod Cells
pub mod Covered
pub mod Examples

-- Laws of this crate's definitions, on plain values.
pub mod Signs
pub mod Order
pub mod Offsets
pub mod Check
pub mod Cells
pub mod Apart

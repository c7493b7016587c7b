-- Laws of this crate's definitions, on plain values.
pub mod Rounding
pub mod Cells
pub mod Sums
pub mod Floors
pub mod Laws
pub mod Same

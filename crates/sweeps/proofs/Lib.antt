-- Laws of this crate's definitions, on plain values.
pub mod Lists
pub mod Turns
pub mod Shape
pub mod Beyond
pub mod Caps

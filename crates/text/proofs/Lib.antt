-- Laws of this crate's definitions, on plain values.
pub mod Cursor
pub mod Sizes
pub mod Told

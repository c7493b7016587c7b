-- Laws of this crate's definitions, on plain values.
pub mod Lists
pub mod Bits
pub mod Liquids
pub mod Casts

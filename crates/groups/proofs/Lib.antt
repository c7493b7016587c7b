-- Laws of this crate's definitions, on plain values.
pub mod Counts
pub mod Places
pub mod Same
pub mod Sets

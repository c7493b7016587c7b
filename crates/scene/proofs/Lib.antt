-- Laws of this crate's definitions, on plain values.
pub mod Scenes
pub mod Refusals
pub mod Recorded

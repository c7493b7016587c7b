-- Laws of this crate's definitions, on plain values.
pub mod Alone
pub mod Scenes
pub mod Files
pub mod Few
pub mod Room
pub mod Refusals

-- The laws of a tick.
pub mod Refuses
pub mod Alike
pub mod Tells
pub mod Past

-- The laws of the step.
pub mod Laws
pub mod Refuses
pub mod Tells
pub mod Friction
pub mod Summed
pub mod Unique

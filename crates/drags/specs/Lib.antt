-- What happens to a body's velocity: pure functions of it and of a sample.
pub mod Constants
pub mod Cases
pub mod Drags

-- The laws of samples.
pub mod Asks
pub mod Reasons

-- The laws of drags.
pub mod Constants
pub mod Alike
pub mod Numbers

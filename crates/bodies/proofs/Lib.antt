-- The laws of bodies.
pub mod Fits

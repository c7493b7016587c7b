-- The laws of the fall record's rule.
pub mod Fits

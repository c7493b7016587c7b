-- The definitions of module 1: whole numbers.
pub mod Whole

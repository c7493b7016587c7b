-- The definitions of module 1: what a number is held to.
pub mod Numbers

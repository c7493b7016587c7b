-- The definitions of module 1: the square root.
pub mod Root
pub mod Steps

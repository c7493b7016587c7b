-- The definitions of what a step comes to in lent numbers.
pub mod Steps
pub mod Falling

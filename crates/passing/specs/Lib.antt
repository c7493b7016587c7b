-- The definitions of what a collection passes over.
pub mod Passing

-- The definitions of module 7: what an item floats in, what a living body is in, and what a host is handed.
pub mod Flotation
pub mod Living
pub mod Answers

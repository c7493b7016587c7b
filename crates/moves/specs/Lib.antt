-- The definitions of module 6 as a host calls it.
pub mod Answers

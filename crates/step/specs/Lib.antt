-- The definitions of module 8's entries: what a host is handed.
pub mod Answers

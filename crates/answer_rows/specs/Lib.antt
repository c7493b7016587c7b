-- The definitions of the answers of the midnight run, and of how many there may be.
pub mod Answers

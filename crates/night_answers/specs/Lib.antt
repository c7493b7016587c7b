-- The definitions of one body's answer in the midnight run.
pub mod Answers

-- A law of this crate's definitions.
pub mod Answers

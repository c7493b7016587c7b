-- What the proofs of liquids share.
pub mod Answers
pub mod Constants
pub mod Unique

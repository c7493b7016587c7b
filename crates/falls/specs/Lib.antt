-- The definitions of the step with a fall record beside it, and of what a list of moves comes to.
pub mod Answers
pub mod Moves
pub mod Samples

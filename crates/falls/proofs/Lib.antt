-- The laws of the step with a fall record, and of a list of moves.
pub mod Laws
pub mod Moves
pub mod Steps
pub mod Samples

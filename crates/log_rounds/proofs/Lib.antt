-- The proofs of a log, written and then read.
pub mod Scenes
pub mod Rounds

-- The statements of a log, written and then read.
pub mod Rounds

-- The laws of a host's moves.
pub mod Numbers
pub mod Summed

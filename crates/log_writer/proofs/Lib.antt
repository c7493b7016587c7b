-- The proofs of a log as it is written.
pub mod Puts

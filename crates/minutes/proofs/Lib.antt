-- The proofs of a minute in lent memory.
pub mod Calls

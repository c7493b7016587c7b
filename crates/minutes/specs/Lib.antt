-- The definitions of a minute in lent memory.
pub mod Calls

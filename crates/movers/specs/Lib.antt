-- The definitions of what moves, in lent numbers.
pub mod Movers

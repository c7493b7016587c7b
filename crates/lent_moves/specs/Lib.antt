-- The definitions of the move over boxes in lent numbers.
pub mod Moves

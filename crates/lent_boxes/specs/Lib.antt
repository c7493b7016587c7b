-- The definitions of boxes in lent numbers, and of what is refused of a move over them.
pub mod Boxes
pub mod Refusals

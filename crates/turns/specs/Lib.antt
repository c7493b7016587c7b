-- The wall transitions of the classroom palette.
pub mod Turns

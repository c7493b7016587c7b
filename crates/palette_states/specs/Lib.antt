-- The states of the classroom palette.
pub mod States

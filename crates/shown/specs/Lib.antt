-- The definitions of what a picture of a move shows.
pub mod Shown

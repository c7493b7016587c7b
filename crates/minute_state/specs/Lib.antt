-- The definitions of a minute: events one after the other, and what the program does of each.
pub mod Minute
pub mod Turns

-- The definitions of what is told of a minute: as text, and as numbers.
pub mod Printed
pub mod Numbers

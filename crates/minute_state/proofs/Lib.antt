-- Laws of a minute's events, on plain values.
pub mod Turns

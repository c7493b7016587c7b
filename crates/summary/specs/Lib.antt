-- The definitions of the calls that keep a summary.
pub mod Calls

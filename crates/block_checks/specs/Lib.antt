-- The definitions of a block's words, marks and checks.
pub mod Checks

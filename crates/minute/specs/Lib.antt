-- The definitions of the same minute as separate steps.
pub mod Separate

-- The definitions of module 4: what face cover is, and how the program looks for a gap.
pub mod Cover
pub mod Gaps

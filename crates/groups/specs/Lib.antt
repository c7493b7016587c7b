-- The definitions of a window's summary: its groups, and what is built, mended and checked of their words.
pub mod Groups
pub mod Summary
pub mod Places

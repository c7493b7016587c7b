-- The definitions of a scene written anew.
pub mod Rewritten

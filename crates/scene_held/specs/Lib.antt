-- The definitions of how the program holds a scene's words.
pub mod Held

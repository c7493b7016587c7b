-- The definitions of the minute of a log file, and of how the program holds its scene.
pub mod Logged
pub mod Held

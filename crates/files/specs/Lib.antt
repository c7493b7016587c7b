-- The definitions of where a body's words stand, of which files are scenes, and of what these hold.
pub mod Places
pub mod Files
pub mod Contents

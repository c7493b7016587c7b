-- The definitions of a scene's tick.
pub mod Scene
pub mod Given

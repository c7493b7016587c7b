-- The small scenes.
pub mod Moves
pub mod Palette
pub mod Windows
pub mod Scenes

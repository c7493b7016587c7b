-- The laws of the move through a window.
pub mod Moved
pub mod Same

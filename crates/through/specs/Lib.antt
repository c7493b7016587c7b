-- The definition of module 6: the move through a window.
pub mod Through
pub mod Few

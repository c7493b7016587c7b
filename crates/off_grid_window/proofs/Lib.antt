-- Change request Thirteen through a window: `off-grid-window` and `off-grid-window-tight` in Through.
pub mod Cells
pub mod Blocks
pub mod Through

-- The one definition of the exports themselves.
pub mod Cells

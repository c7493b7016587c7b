-- The laws of what stands in a cell.
pub mod Boxes

-- What stands in a cell.
pub mod Shapes
pub mod Parts

-- Laws of the cells of a group, on plain values.
pub mod Cells

-- Laws of rows.
pub mod Parts

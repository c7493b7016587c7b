-- The cells of an area, and going through them in the Rust's order.
pub mod Ranges
pub mod Walk
pub mod Cells

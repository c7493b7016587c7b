-- The definitions of module 2, of vectors, and of the limits on boxes.
pub mod Boxes
pub mod Vectors
pub mod Sides
pub mod Limits

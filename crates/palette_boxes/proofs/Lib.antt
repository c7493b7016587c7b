-- Laws of the palette's boxes.
pub mod Boxes
pub mod Counts

-- The boxes of the classroom palette.
pub mod Shapes
pub mod Fill

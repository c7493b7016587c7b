-- Laws of lengths and room.
pub mod Short

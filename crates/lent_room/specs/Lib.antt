-- The definitions of lengths and room.
pub mod Room

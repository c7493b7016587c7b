-- The definitions of what the writer makes of a part.
pub mod Bytes

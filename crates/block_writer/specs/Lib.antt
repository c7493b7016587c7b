-- The definitions of what the writer makes of a block.
pub mod Bytes

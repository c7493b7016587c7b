-- The definitions of what binds in every block.
pub mod Rules

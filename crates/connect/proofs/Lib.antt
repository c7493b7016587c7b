-- The laws of connections.
pub mod Unique

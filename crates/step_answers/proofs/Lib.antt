-- The laws of what a host is handed.
pub mod Unique

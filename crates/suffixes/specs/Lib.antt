-- The definitions of the tests on bytes.
pub mod Bytes

-- The definitions of module 5 that ask for no cell.
pub mod Joining

-- The definitions of module 7, currents.
pub mod Current

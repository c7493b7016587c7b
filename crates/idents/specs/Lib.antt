-- The definitions of module 3: connects-as, and the wall post rule.
pub mod Connects
pub mod Posts

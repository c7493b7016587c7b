-- Laws of the midnight run.
pub mod Turns
pub mod Orders

-- Laws of a buffer's halves.
pub mod Halves

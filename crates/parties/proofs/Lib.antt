-- Laws of the call for two parties.
pub mod Halves
mod Checked
pub mod Both
pub mod Separation
pub mod Answers

-- Laws of words.
pub mod Signs
pub mod Rounds

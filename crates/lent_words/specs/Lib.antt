-- The definitions of lent words.
pub mod Words

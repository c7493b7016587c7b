-- The definitions of the words of a body as they are written.
pub mod Words

-- The definitions of an answer as bytes, and of the cursor at which they are written.
pub mod Cursor
pub mod Text
pub mod Told

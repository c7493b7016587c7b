-- The definitions of what a recorder is handed back.
pub mod Answers

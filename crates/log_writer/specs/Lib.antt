-- The definitions of a log as it is written.
pub mod Written

-- The definitions of the rows of the midnight run.
pub mod Rows

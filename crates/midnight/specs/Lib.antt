-- The definitions of the midnight call whole.
pub mod Run

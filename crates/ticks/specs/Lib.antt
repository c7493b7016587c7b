-- The definitions of module 8's tick.
pub mod Step

-- The definitions of module 6: collection.
pub mod Collect
pub mod Answers
pub mod Settled
pub mod Past

-- The definitions of the capped list and of the move over a list.
pub mod Lists
pub mod Move
pub mod Passes
pub mod Entry

-- Theorems on the classroom palette.
pub mod Check
pub mod Exact
pub mod BitRule

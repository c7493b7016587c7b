-- The laws of ranges.
pub mod Walks
pub mod Walking
pub mod Sums

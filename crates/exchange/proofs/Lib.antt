-- The proofs of what is said of two words exchanged.
pub mod Sums
pub mod Powers
pub mod Checks
pub mod Blocks
pub mod Files
pub mod Samples

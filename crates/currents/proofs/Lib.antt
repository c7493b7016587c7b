-- What the proofs of currents share.
pub mod Answers
pub mod Cells
pub mod Constants
pub mod Reach

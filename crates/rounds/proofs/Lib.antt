-- The proofs of the two rounds of a scene.
pub mod Passed
pub mod Known
pub mod Written
pub mod Read
pub mod Anew

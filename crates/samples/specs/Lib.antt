-- What a step asks of the cells under a body.
pub mod Samples

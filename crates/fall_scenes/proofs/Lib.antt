-- What the run leaves.
pub mod Run

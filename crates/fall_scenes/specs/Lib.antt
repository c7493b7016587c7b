-- A run of steps.
pub mod Run

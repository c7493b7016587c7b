-- Demand 3.
pub mod Grid
pub mod Demand
pub mod Exact
pub mod Samples

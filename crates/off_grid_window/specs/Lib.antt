-- Change request Thirteen through a window.
pub mod Demand

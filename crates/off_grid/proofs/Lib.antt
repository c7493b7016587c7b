-- Change request Thirteen over a list: `off-grid-accepted` and `off-grid-accepted-tight` in OverList; `from_start` in Starts, over any list, is what they come from.
pub mod Axis
pub mod Passes
pub mod Sequence
pub mod Sweep
pub mod Whole
pub mod Starts
pub mod OverList
pub mod Samples

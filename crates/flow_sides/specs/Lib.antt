-- The definitions of a flow's sides.
pub mod Sides

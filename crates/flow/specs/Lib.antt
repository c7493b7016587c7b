-- The definitions of module 7, below: liquids in cells, and flow.
pub mod Liquid
pub mod Flow

-- The definitions of a window's groups: which there are, their cells, and the word of each.
pub mod Groups

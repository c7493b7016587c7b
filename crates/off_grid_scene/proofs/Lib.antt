-- The premises of `off-grid-window` are not empty.
pub mod Beside

-- The definitions of the windows of the midnight run.
pub mod Windows

-- Laws of the midnight run's windows.
pub mod Checks

-- What the check of a list comes to.
pub mod Limits

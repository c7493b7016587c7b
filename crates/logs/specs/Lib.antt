-- The definitions of which files are logs of a minute, and of the events that a log holds.
pub mod Logs

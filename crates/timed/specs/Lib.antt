-- what bench/ times
pub mod Ways

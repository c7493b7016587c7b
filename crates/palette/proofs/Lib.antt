-- Laws of the palette's records.
pub mod Ranges
pub mod Records

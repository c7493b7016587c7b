-- Collection past layers is plain collection; and what a checked window has of a summary.
pub mod Same
pub mod Plain

-- The definitions of the fall record's rule.
pub mod Rule

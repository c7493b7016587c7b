-- The definitions of the call for two parties, and the theorem of their separation as a statement.
pub mod Parties
pub mod Separation

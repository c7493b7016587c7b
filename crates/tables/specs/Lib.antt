-- The definitions of the lent tables: their look-ups.
pub mod Tables
pub mod Kinds

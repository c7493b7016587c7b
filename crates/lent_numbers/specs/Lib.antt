-- The definitions of what is written into lent numbers.
pub mod Written

-- The check of lent data, which every entry makes first.
pub mod Lent

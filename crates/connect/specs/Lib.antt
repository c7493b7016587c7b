-- The definitions of module 5: the rules, and what the program's answers say.
pub mod Connect
pub mod Answers

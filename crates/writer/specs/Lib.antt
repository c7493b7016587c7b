-- The definitions of a scene as it is written: what it is made of, its bytes, and what is refused.
pub mod Contents
pub mod Written

-- Laws of one body's answer.
pub mod Wrong
pub mod Bodies
pub mod Summed

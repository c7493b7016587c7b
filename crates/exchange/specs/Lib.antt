-- What it is to exchange two words of a file, the statements about it, and blocks to try it on.
pub mod Exchange
pub mod Samples

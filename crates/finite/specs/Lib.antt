-- Request Eleven, and computed steps beside it.
pub mod Finite
pub mod Samples

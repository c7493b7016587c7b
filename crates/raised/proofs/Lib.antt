-- The theorem of the cap.
pub mod Asks
pub mod Lists
pub mod Steps
pub mod Raised

-- the laws that every crate shares
pub mod Cases
pub mod Asks
pub mod Answers
pub mod Values
pub mod Bounds
pub mod Every
pub mod Fill
pub mod Appended
pub mod Listed
pub mod Stored
pub mod Tests
pub mod Differences
pub mod Members
pub mod Counts
pub mod Rounding
pub mod Scaled

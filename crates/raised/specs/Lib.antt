-- The statement of the theorem of the cap.
pub mod Raised

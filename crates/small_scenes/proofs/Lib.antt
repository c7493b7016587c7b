-- The small scenes hold.
pub mod Tables
pub mod Small

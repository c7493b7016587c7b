-- The laws of collection.
pub mod Collects
pub mod Refuses
pub mod Order
pub mod Caps
pub mod Past
pub mod Lent

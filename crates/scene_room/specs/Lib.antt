-- The definition of whether a scene has room.
pub mod Room

-- The statements of the two rounds of a scene.
pub mod Rounds

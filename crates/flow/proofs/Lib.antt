-- What the proofs of flow share.
pub mod FourSides

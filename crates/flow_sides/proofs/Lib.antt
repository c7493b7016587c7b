-- What the proofs of a flow's sides share.
pub mod Constants

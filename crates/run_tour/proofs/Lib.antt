-- What the proofs of the tour share. Assumes nothing.
pub mod Built

-- What the proofs of the C boundary share. Assumes nothing.
pub mod Eight

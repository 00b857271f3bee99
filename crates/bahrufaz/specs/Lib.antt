-- What the contracts of the C boundary cite beside the rules. Assumes nothing.
pub mod Boundary
pub mod Demanded

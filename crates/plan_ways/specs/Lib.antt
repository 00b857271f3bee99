-- What the contracts of this crate cite beside the rules. Assumes nothing.
pub mod Ways
pub mod Given

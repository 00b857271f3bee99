-- What the contracts of sorting within one slice cite. Assumes nothing.
pub mod Sorting

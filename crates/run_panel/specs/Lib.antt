-- What the contracts of the program cite. Assumes nothing.
pub mod Panel
pub mod Shown

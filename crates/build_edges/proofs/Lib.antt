pub mod Sections
mod Filling
pub mod Edges
mod Starting
mod Beginnings
mod Joining
pub mod Nearby

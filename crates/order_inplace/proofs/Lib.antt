mod Merging
pub mod Front

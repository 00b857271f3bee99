pub mod Counting
pub mod Exceed

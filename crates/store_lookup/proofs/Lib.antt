pub mod Ordered
pub mod Lowest

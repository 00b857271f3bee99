pub mod Side
pub mod Left
pub mod Pairs
pub mod Arrange
pub mod Useful

pub mod Records
pub mod Comparing
pub mod Emitting

pub mod Packed
pub mod Near
pub mod Sound
pub mod Starts

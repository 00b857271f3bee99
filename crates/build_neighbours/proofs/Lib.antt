mod Beside
pub mod Until
mod Sought
mod Arranging
pub mod Pairing
mod Written

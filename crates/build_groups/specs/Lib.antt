pub mod Keyed
pub mod Emit

pub mod Choosing
pub mod Slots
pub mod Ends
pub mod Looking
pub mod Folding

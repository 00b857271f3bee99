mod Keeping
mod Kept

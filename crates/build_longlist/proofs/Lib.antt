mod Counts
mod Sifting
mod Exceeding
mod Exceeds

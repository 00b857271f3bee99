-- Document 01 as definitions, in its order; last, the small world and the starred cases. Assumes nothing.
pub mod Words
pub mod Lists
pub mod Store
pub mod Graph
pub mod Index
pub mod Pattern
pub mod Match
pub mod Plan
pub mod Listing
pub mod Answers
pub mod Refused
pub mod World
mod Cases

mod Noting
mod Sounding
pub mod Outcomes

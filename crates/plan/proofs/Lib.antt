pub mod Planning
pub mod Complete

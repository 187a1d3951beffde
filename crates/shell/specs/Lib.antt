pub mod WholePaths
pub mod Steps
pub mod Replaced
pub mod Replies
pub mod CommandBytes
pub mod Answers
pub mod Privacy
pub mod Compute

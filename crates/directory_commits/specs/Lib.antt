pub mod Steps
pub mod StepsLaws
pub mod Commits
pub mod BelowLaws
pub mod CommandLaws

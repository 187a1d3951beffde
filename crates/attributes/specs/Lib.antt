pub mod Checks
pub mod ChecksLaws

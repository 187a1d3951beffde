pub mod Transcript
pub mod Calls
pub mod CallLists
pub mod Program
pub mod ProgramByLines
pub mod CommitLines
pub mod Compute

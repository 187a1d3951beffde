pub mod SetupLines
pub mod Line
pub mod LineLaws
pub mod Compute

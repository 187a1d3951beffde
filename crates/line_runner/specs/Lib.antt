pub mod LineDone
pub mod LineDoneLaws

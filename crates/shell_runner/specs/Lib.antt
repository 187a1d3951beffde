pub mod ShellDone
pub mod ShellDoneLaws

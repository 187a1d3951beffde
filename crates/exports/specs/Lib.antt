pub mod Exported
pub mod ExportedLaws

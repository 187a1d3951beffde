pub mod Gaps
pub mod GapsLaws

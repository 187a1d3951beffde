pub mod Stored
pub mod StoredLaws
pub mod LentLaws

pub mod EntryDone
pub mod EntryDoneLaws

pub mod Changes
pub mod WrittenLaws
pub mod EncodedRowsLaws
pub mod EditLaws

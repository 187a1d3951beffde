pub mod FieldsWrittenLaws
pub mod FieldEditLaws
pub mod NodeCopy
pub mod NodeCopyLaws

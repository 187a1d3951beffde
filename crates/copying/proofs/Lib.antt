pub mod CopyLaws
pub mod CopyRowLaws
pub mod CopyBytesLaws
pub mod RowsWrittenLaws
pub mod DepthLaws
pub mod CopyJobLaws
pub mod CopyEntryLaws

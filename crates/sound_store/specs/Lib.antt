pub mod HeaderTests
pub mod PassesLaws
pub mod DirectoryTestLaws
pub mod HeaderTestLaws
pub mod StoreStepLaws

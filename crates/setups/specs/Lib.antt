pub mod HeaderValuesLaws
pub mod HeaderGrowsLaws
pub mod DirectoriesLaws
pub mod LineRead
pub mod LineReadLaws
pub mod OpeningLaws
pub mod Making
pub mod MakingLaws

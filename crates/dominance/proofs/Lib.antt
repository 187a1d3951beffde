pub mod PairsInLaws
pub mod ClosingLaws

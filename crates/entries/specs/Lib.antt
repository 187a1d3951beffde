pub mod EntrySteps
pub mod LinkLaws
pub mod RemovalLaws
pub mod EntryStepsLaws
pub mod FiledLaws
pub mod TestsLaws

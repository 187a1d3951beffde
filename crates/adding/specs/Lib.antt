pub mod AddSteps
pub mod AddTestsLaws
pub mod AddRowLaws
pub mod AddLaws

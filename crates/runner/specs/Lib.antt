pub mod Runner
pub mod RunnerLaws
pub mod SessionStepLaws

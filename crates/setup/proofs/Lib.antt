pub mod SetupLaws
pub mod SetupStepLaws
pub mod SoundSetupLaws
pub mod LinesLaws

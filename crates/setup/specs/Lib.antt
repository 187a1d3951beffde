pub mod Setup
pub mod SetupStep
pub mod SoundSetup
pub mod Compute

pub mod PlacingLaws
pub mod PlacingJobLaws

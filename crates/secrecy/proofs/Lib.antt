pub mod RedactedLaws
pub mod SecrecyLaws
pub mod SecrecyTheorems
pub mod SecrecyOnCalls
pub mod Cases

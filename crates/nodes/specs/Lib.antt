pub mod NodeChecks
pub mod NodeChecksLaws
pub mod MoveChecks
pub mod MoveChecksLaws
pub mod NodeChangesLaws

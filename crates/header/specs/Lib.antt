pub mod HeaderBytes
pub mod HeaderBytesLaws
pub mod KnownLaws
pub mod SessionBytesLaws
pub mod GrantedLaws
pub mod PairRowsLaws
pub mod HeaderFollowsLaws

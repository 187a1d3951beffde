pub mod Bits
pub mod ClosureLaws
pub mod AccessLaws
pub mod CallerLaws
pub mod DominanceLaws
pub mod GroupsLaws
pub mod PairBytesLaws
pub mod ServiceLaws

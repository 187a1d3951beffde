pub mod ListingLaws
pub mod RowListingLaws
pub mod ByteOrderLaws
pub mod ListedLaws
mod Cases

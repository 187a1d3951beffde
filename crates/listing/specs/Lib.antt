pub mod Listing
pub mod RowListing
pub mod ByteOrder
pub mod Compute

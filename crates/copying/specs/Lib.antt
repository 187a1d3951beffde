pub mod Copying
pub mod CopyRows
pub mod Compute

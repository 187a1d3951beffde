pub mod Pieces
pub mod Number
pub mod Form
pub mod Path
pub mod Field
pub mod Parts
pub mod Compute

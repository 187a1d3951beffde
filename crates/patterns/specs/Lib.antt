pub mod Buffers
pub mod Turns
pub mod Serving
pub mod TurnsLaws
pub mod ServingLaws

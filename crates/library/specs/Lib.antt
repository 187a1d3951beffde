pub mod CallBytes
pub mod CallBytesLaws
pub mod CallerBytes
pub mod RunLaws

pub mod Relabel
pub mod RelabelLaws
pub mod Moving
pub mod MovingLaws

pub mod InputLines
pub mod Agenda
pub mod Conversation
pub mod Due

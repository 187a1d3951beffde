pub mod InputLinesLaws
pub mod LongLineLaws
pub mod AgendaLaws
pub mod StepLaws
pub mod ReadingOnLaws
pub mod LinesDueLaws
pub mod ConversationLaws

pub mod WholeText
pub mod WrittenLaws
pub mod StandsLaws
pub mod CarriedLaws
pub mod WholeTextLaws

pub mod Printed
pub mod PrintedLaws

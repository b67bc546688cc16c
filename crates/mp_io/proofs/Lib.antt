mod DevicesExamples
pub mod Held
pub mod Written
pub mod Pieces
pub mod WritingLaws

pub mod Printing
pub mod PrintedPattern
pub mod PrintedTemplate
pub mod PrintedCond
pub mod PrintedEdits
pub mod PrintedSignature
pub mod KeptTexts

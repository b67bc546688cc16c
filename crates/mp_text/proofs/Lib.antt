pub mod FileSteps
pub mod SoundSubject
pub mod Whole
mod InOrderLaws
pub mod SoundFile
pub mod Statements
pub mod DeclaredParts
pub mod ReadFile
mod Draft
mod EditLaws
mod SoundEdits
mod Examples
mod ReadTermLaws
mod ReadPatternLaws
mod SubjectLaws
mod RuleReaderLaws

mod JoinedTexts
mod EndedTexts
mod Runs
mod TokenRuns
mod ReadTexts
pub mod SpellingLaws
pub mod SpellingFaults
pub mod FrontTexts
mod Examples

pub mod Messages
pub mod Outcome
pub mod Run
pub mod Computed
pub mod Endings
pub mod Answers
pub mod Programs

pub mod Ready
pub mod Single
pub mod Verdict
pub mod Ranked
pub mod Extension
pub mod Complete

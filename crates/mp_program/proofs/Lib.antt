pub mod LineLaws
pub mod ListLaws
pub mod FaultLaws
pub mod NameLaws
pub mod PathLaws
pub mod PrintedLines
mod PutLaws
pub mod TestLaws
pub mod OneSpelling
mod Examples

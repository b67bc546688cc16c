pub mod ReadyLaws
mod Counted
mod Same
mod Parts
mod TermTests
mod Occurs
mod Missing
mod RankParts
mod RankOrder
mod RankedLaws
pub mod SettledLaws
pub mod AgreeLaws
pub mod ExtensionLaws
pub mod CompleteLaws

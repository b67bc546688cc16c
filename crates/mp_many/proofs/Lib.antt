pub mod TokenLists
pub mod LaidLaws
pub mod StateLaws
mod TokenLaws
mod KeptLaws
mod SpanLaws
mod ChainLaws
mod GroupLaws
mod DigestLaws
mod RowLaws
mod RunLaws
pub mod TreeLaws
mod CodeLaws
pub mod WalkableLaws
mod TreeExamples
pub mod ConstantLaws
pub mod OnceLaws
mod ItemLaws
mod WalkLaws
mod ReadNameLaws
mod RuleNameLaws
mod SubstLaws
pub mod AllPairsLaws
pub mod FoundLaws
pub mod MarkLaws

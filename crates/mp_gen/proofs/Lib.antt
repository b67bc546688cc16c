mod GeneratedLaws
mod TreeTargets
mod LeadLaws
mod PathVariables
mod OpenLaws
mod WalkablePaths
pub mod RuleNames
mod TestNames
pub mod RuleFaults
pub mod TreeFaults
mod FlatPatterns
mod RightTokens
mod FormLines
pub mod Validity

pub mod Equality
mod Multisets
mod Examples
pub mod InstanceLaws
pub mod RankLists
pub mod BoundLaws
mod JoiningLaws
pub mod TrailLaws
mod BindingLaws
mod TrailViewLaws
mod LastLaws
mod OutcomeLaws
mod TrailSubst

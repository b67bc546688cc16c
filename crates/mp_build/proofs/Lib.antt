pub mod Numbers
pub mod Applied
pub mod Counts
mod Plain
mod Free
pub mod Fails
mod BuiltLists
pub mod Words
pub mod Faultless
pub mod OpLaws
pub mod Built
pub mod Clashes
pub mod Declared
pub mod Defaults
pub mod SoundLaws
pub mod BoundNames
pub mod SoundConditionLaws
pub mod Extents
pub mod SoundTemplate
mod AloneLaws
pub mod FirstToken
mod Joined
mod ConditionTrees

pub mod Separated
pub mod Parts
mod KeptTextLaws
mod Arguments
mod CondTexts
mod BoundVariables
mod Examples

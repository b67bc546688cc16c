pub mod Cases
pub mod Counts
mod Examples
pub mod FirstFault
pub mod GoesOn
pub mod Holds
pub mod InOrder
pub mod Larger
pub mod NoFault
pub mod OneFault
pub mod Printed
pub mod PrintedCondition
pub mod PrintedEdit
pub mod PrintedExpr
pub mod Refused
pub mod TokensFault
pub mod Whole

pub mod PieceSteps
pub mod SameLaws
pub mod TrailBindings
pub mod CheckLaws

pub mod Lists
pub mod Stack
pub mod TrailValue
pub mod Trail
pub mod Check

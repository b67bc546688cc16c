pub mod Matched
pub mod Numbers

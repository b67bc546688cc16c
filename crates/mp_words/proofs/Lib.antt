pub mod Numbers
pub mod Command

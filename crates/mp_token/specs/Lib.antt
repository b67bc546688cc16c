pub mod Entry
pub mod EntriesView
pub mod TokenText
pub mod Spelling
pub mod Machine

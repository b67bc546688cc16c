pub mod Finds
pub mod Words
pub mod LineTexts
pub mod ActionView
pub mod Lines
pub mod LineView
pub mod Named

pub mod Generated
pub mod Printable

pub mod Spelled
pub mod OpenBrackets
pub mod Readable
pub mod AloneTemplate

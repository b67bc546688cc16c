pub mod Begins
pub mod FirstFault
pub mod Printed
pub mod Reading
pub mod StatementParsing

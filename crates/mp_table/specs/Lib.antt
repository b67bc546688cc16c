pub mod Subterms
pub mod Preorder
pub mod Pieces
pub mod Table
pub mod TableCode
pub mod Sought
pub mod Reading
pub mod Text

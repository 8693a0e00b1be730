pub mod Indices
pub mod Legality
pub mod LastCall
pub mod LegalLength
pub mod CallNumbers
pub mod LessLast

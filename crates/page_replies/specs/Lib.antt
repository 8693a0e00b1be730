-- What the pages are told, as texts.
pub mod Place
pub mod Tables
pub mod ToldResults
pub mod WrongKey

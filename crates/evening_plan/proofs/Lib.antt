pub mod Lines
pub mod NamedWords
pub mod Numbers
pub mod ShownLines
pub mod ShownNames
pub mod Written

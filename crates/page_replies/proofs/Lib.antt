pub mod SamePlace
mod MoreTables
mod WrongKeys

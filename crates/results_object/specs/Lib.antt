-- The definitions of the object that is exported.
pub mod Values
pub mod Builder
pub mod Plays
pub mod Object

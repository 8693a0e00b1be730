-- The definitions of what is found of a session.
pub mod Analysed

-- The definitions of several sessions as one field.
pub mod OneField
pub mod Joint
pub mod Wide
pub mod EventRanking
pub mod EventText
pub mod Dealt

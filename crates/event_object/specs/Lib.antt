-- The definitions of the object of several sections.
pub mod Sections
pub mod SectionPlays
pub mod SectionRankings
pub mod EventObject

-- The definitions of the games of several sections.
pub mod SectionCell
pub mod SectionScores
pub mod EventTotals
pub mod Played
pub mod EventGames

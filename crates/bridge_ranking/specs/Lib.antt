-- The definitions of a ranking.
pub mod Ranking
pub mod KeptGames
pub mod Gains

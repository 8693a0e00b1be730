-- The definitions of the games that are exported.
pub mod Cells
pub mod Scores
pub mod Totals
pub mod Optimum
pub mod Games

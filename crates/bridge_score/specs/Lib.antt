pub mod ScoringTable
pub mod ImpScale
pub mod Comparison
pub mod Percent
pub mod Ranking

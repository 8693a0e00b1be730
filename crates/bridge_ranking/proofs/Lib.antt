pub mod Games
pub mod Gains
pub mod EqualGains
pub mod OneRanking

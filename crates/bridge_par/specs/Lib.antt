pub mod Tricks
pub mod Par
pub mod BestBids

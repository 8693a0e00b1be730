pub mod Sums
pub mod OtherScores
pub mod Order
pub mod Shared
pub mod Scale

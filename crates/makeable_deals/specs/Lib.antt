pub mod Makeable
pub mod Reading
pub mod Making
pub mod FaultLine
pub mod Games
pub mod DealingViews
pub mod Progress

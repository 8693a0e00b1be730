pub mod Place
pub mod Passed
pub mod OneSection
pub mod RankedSections
pub mod Played
pub mod Order

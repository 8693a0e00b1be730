pub mod Tags
pub mod Sections
pub mod Games
pub mod Written

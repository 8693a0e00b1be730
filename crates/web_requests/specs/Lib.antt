pub mod Route
pub mod Filled

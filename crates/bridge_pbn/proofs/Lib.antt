pub mod Joined
pub mod Pushed
pub mod Walked
pub mod Numbered
pub mod Rows
pub mod Found

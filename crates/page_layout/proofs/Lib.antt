pub mod Joined
pub mod Cells
pub mod Walk

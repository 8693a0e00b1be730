pub mod Counted
pub mod Connected
pub mod Served
pub mod Shown
pub mod PairShown

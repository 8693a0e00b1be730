pub mod TurnLemmas
pub mod Leading
pub mod Limits
mod Rooms
mod Serves

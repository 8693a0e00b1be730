pub mod Answered
pub mod Shown
mod BodyLines
mod SameWaits
mod ToldNow
pub mod NamesTold

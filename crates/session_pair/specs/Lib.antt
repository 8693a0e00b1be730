pub mod Choosing
pub mod Telling
pub mod Joining
pub mod Unjoined

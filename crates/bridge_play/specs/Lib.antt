pub mod Trick
pub mod Legal
pub mod CardPlay
pub mod Dummy
pub mod Claims
pub mod Play

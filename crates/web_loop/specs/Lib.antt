pub mod Turns
pub mod Offenders
pub mod Waiting
pub mod Connected
pub mod Room
pub mod Round
pub mod Serving

-- The definitions.
pub mod KeptSession
pub mod Ending
pub mod HasAll
pub use Rattle.session_bytes.specs.SessionKeeping

-- The definitions of the results of several sections.
pub mod EventTraveller
pub mod Rankings
pub mod Kept
pub mod EventTables
pub mod EventHead
pub mod EventPage

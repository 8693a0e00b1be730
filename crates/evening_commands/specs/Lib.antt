pub mod TextFile
pub mod Fault
pub mod NamesView
pub mod Evenings
pub mod Plans
pub mod People
pub mod Making

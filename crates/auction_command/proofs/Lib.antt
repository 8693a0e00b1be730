pub mod LineLemmas
pub mod Heard

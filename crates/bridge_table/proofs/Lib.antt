pub mod Tied
pub mod Among
pub mod Tables
pub mod Outcomes
pub mod Stages
pub mod LessLatest

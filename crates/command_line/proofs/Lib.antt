pub mod Found
pub mod Asked
pub mod Alone

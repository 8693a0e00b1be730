pub mod Lists
pub mod Floats

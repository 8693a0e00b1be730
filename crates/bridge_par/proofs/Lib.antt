pub mod Calling
pub mod Listing

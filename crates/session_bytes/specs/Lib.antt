-- The definitions of the bytes.
pub mod AssignedBytes
pub mod Parts
pub mod ClaimRead
pub mod Reading
pub mod ActionRange
pub mod ActionBytes
pub mod PartsRead
pub mod Head
pub mod SessionKeeping

pub mod Refused
pub mod ConfigValue
pub mod Limits
pub mod Spelling
pub mod Then
pub mod LineReading
pub mod Reading
pub mod Parts

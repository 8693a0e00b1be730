pub mod Lines
pub mod Words
pub mod WordViews
pub mod Numeral
pub mod Decimals
pub mod Streams
pub mod Refusal

pub mod Limit
pub mod KeyWord
pub mod ReplyTexts
pub mod ViewText
pub mod LineFeed
pub mod TableWords

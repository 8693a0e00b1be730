pub mod Added
pub mod FeedLemmas
pub mod Pairs
pub mod WrittenParts

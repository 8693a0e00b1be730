pub mod Replies
pub mod AuctionLines
pub mod Heard

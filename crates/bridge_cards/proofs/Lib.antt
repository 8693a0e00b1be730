pub mod FollowLaws
pub mod CardSetLaws
pub mod CardCounts
pub mod OneHolder
mod CardBits
mod OnesCounted
mod SuitText
mod Joining
mod HandText
mod DealLemmas
pub mod PrintLemmas
mod PrintedDeal
mod DealtHands
mod DealTests
mod JudgedDeals
mod TrickWinner
pub mod SuitHeld

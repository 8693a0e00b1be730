pub mod CardWords
pub mod FirstWords
pub mod CommandLaws
pub mod Folds
pub mod CourseLemmas
pub mod ServingLemmas
pub mod TakingLemmas
pub mod CountLemmas
pub mod ServesLemmas
pub mod HearingLemmas
pub mod KeyLemmas
pub mod StreamLemmas
pub mod FailureLemmas
pub mod AcceptingLemmas
pub mod FaultLemmas
mod SameHands
mod OneAnswer

mod JoiningLemmas
mod TellingLemmas

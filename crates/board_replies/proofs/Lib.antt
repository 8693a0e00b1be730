mod OwnTexts
mod KnownPlays
mod SameBoards
mod OverPlays
mod Standing

-- What is told of the boards that a pair has finished.
pub mod KnownPlay
pub mod OwnPlays
pub mod PlayLines
pub mod Beside
pub mod Asked
pub mod Rulings
pub mod Director
pub mod Told
pub mod Finished

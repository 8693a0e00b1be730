pub mod LinesRead
pub mod FileRead
pub mod GamesWritten

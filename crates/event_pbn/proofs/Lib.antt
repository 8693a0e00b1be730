mod PlayedGame
mod Found

-- Games as they are written one after another.
use Rattle.std.specs.Prelude.{◌≡◌, ℕ, Bool, true, false, ◌||◌, if◌then◌else◌, List, [], ◌∷◌, flat_map, Result, Ok, Err}
use Rattle.line_text.specs.Streams.{Stream, Takes, TakesPrefix}
use Rattle.line_text.specs.Lines.{lines_text, parted}

-- the lines of games, each after an empty line where a game stands before it
abbrev pub games_after : Bool → List (List (List ℕ)) → List (List ℕ)
games_after begun games = if begun then flat_map (λ game. [] ∷ game) games else parted [] games

-- whether there is a game
abbrev pub has_some : List (List (List ℕ)) → Bool
has_some [] = false
has_some (game ∷ games) = true

-- whether a game stands there, after those games
abbrev pub has_begun : Bool → List (List (List ℕ)) → Bool
has_begun begun games = begun || has_some games

-- the writer took the games at Ok, which says whether a game stands there now, and a prefix of them at an error
abbrev pub WrittenGames : {E : Type 0} → Stream → Bool → List (List (List ℕ)) → Result Bool E → Type 0
WrittenGames writer begun games (Ok now) = Takes writer (lines_text (games_after begun games)) × (now ≡ has_begun begun games)
WrittenGames writer begun games (Err _) = TakesPrefix writer (lines_text (games_after begun games))

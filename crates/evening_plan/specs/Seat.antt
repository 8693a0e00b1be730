-- The row that a pair plays in a round.
use Rattle.std.specs.Prelude.{ℕ, Bool, ◌==◌, ◌&&◌, ◌||◌, if◌then◌else◌, List, [], ◌∷◌, Option, None, Some}
use Rattle.bridge_movement.specs.declared.row.Row.{Row}
use Rattle.bridge_movement.specs.Row.{is_live}

-- the row is live, of the round, and has the pair
abbrev pub has_seat : ℕ → ℕ → Row → Bool
has_seat round pair row = row.round == round && is_live row && (row.ns == pair || row.ew == pair)

-- the first such row
abbrev pub seat_row : ℕ → ℕ → List Row → Option Row
seat_row round pair [] = None
seat_row round pair (row ∷ rows) = if has_seat round pair row then Some row else seat_row round pair rows

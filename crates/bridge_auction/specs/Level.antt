-- The levels of bids.
use Rattle.std.specs.Prelude.{ℕ, ◌≤◌}

-- from 1 to 7
abbrev pub IsLevel : ℕ → Type 0
IsLevel level = (1 ≤ level) × (level ≤ 7)

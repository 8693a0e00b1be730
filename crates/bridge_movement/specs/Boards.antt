-- The boards of a set, where each set has so many: set 1 has the first of them.
use Rattle.std.specs.Prelude.{ℕ, ◌-◌, ◌*◌}

-- how many boards come before those of a set
abbrev pub boards_before : ℕ → ℕ → ℕ
boards_before boards set = (set - 1) * boards

-- the last board of a set
abbrev pub last_board : ℕ → ℕ → ℕ
last_board boards set = set * boards

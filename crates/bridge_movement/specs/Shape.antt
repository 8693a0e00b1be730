-- The limits of a movement's shape.
use Rattle.std.specs.Prelude.{ℕ, ◌+◌, ◌-◌, ◌*◌, ◌≤◌}
use Rattle.bridge_movement.specs.declared.shape.Shape.{Shape}

-- from the low number to the high one
abbrev pub IsBetween : ℕ → ℕ → ℕ → Type 0
IsBetween low high n = (low ≤ n) × (n ≤ high)

-- each number is within its limits
pub record IsShape (shape : Shape) : Type 0 where
  pub tables : IsBetween 2 12 shape.tables
  pub rounds : IsBetween 1 12 shape.rounds
  pub sets : IsBetween 1 12 shape.sets
  pub pairs : IsBetween 2 24 shape.pairs
  pub split : IsBetween 1 shape.pairs shape.split

-- one row for each table in each round
abbrev pub row_count : Shape → ℕ
row_count shape = shape.rounds * shape.tables

-- how many rows come before those of a round, from 1: rows stand by round, then by table
abbrev pub rows_before : Shape → ℕ → ℕ
rows_before shape round = (round - 1) * shape.tables

-- the index of the row of a round and a table, both from 1
abbrev pub index_of_row : Shape → ℕ → ℕ → ℕ
index_of_row shape round table = rows_before shape round + (table - 1)

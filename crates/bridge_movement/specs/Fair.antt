-- Rows that are complete, in order and fair. Places in a list count from 0.
use Rattle.std.specs.Prelude.{ℕ, ◌≡◌, ◌+◌, ◌/◌, ◌%◌, ◌<◌, ◌≤◌, List, length, slice_index_or, All, AllPairs}
use Rattle.bridge_movement.specs.declared.row.Row.{Row}
use Rattle.bridge_movement.specs.declared.shape.Shape.{Shape}
use Rattle.bridge_movement.specs.Row.{SeatPairTwice, PlaySetAgain}
use Rattle.bridge_movement.specs.Shape.{row_count}

-- the row that is due at an index: rows stand by round, then by table
abbrev pub IsDue : Shape → ℕ → Row → Type 0
IsDue shape index row =
    (index < row_count shape) × (row.round ≡ index / shape.tables + 1) × (row.table ≡ index % shape.tables + 1)

-- there is a row at the index, and it is the one due there
abbrev pub IsInPlace : Shape → List Row → ℕ → Type 0
IsInPlace shape rows index =
    (index < length rows) × ((d : Row) → IsDue shape index (slice_index_or rows index d))

-- one row for each table in each round, by round, then by table
pub record IsComplete (shape : Shape) (rows : List Row) : Type 0 where
  pub count : length rows ≡ row_count shape
  pub order : (index : ℕ) → index < length rows → IsInPlace shape rows index

-- the numbers of the pairs are within the shape; 0 is nobody
abbrev pub HasPairsWithin : Shape → Row → Type 0
HasPairsWithin shape row = (row.ns ≤ shape.pairs) × (row.ew ≤ shape.pairs)

-- no pair meets itself
abbrev pub HasTwoPairs : Row → Type 0
HasTwoPairs row = row.ns ≡ row.ew → row.ns ≡ 0

-- the number of the set is within the shape
abbrev pub HasSetWithin : Shape → Row → Type 0
HasSetWithin shape row = (1 ≤ row.set) × (row.set ≤ shape.sets)

-- numbers are within the shape; no pair other than 0 stands twice in a round, on two sides or in two rows; no pair has
-- one set in two live rows
pub record IsFair (shape : Shape) (rows : List Row) : Type 0 where
  pub pairs : All (HasPairsWithin shape) rows
  pub opponents : All HasTwoPairs rows
  pub sets : All (HasSetWithin shape) rows
  pub one_table : AllPairs (λ a b. ¬ SeatPairTwice a b) rows
  pub new_sets : AllPairs (λ a b. ¬ PlaySetAgain a b) rows

-- what each movement is
pub record IsMovement (shape : Shape) (rows : List Row) : Type 0 where
  pub complete : IsComplete shape rows
  pub fair : IsFair shape rows

-- Why rows are no movement.
use Rattle.std.specs.Prelude.{ℕ, ◌≡◌, ◌+◌, ◌<◌, List, length, codes, slice_index_or, take, Any}
use Rattle.bridge_movement.specs.declared.refused.MovementRefused.{MovementRefused}
use Rattle.bridge_movement.specs.declared.refused.MovementRefused.TheVariants.{MissingRow, BadPair, SamePair, BadSet, PairTwice, SetAgain}
use Rattle.bridge_movement.specs.declared.row.Row.{Row}
use Rattle.bridge_movement.specs.declared.shape.Shape.{Shape}
use Rattle.bridge_movement.specs.Fair.{IsInPlace, IsComplete, HasPairsWithin, HasTwoPairs, HasSetWithin}
use Rattle.bridge_movement.specs.Row.{SeatPairTwice, PlaySetAgain}

-- the least index at which the row due does not stand, of rows that are not complete and in order
pub record IsFirstMisplaced (shape : Shape) (rows : List Row) (index : ℕ) : Type 0 where
  pub incomplete : ¬ IsComplete shape rows
  pub here : ¬ IsInPlace shape rows index
  pub before : (k : ℕ) → k < index → IsInPlace shape rows k

-- a pair of the row stands in an earlier row of its round
abbrev pub HasPairTwice : List Row → Row → Type 0
HasPairTwice earlier row = Any (λ a. SeatPairTwice a row) earlier

-- a pair of the row has played its set in an earlier row
abbrev pub HasSetAgain : List Row → Row → Type 0
HasSetAgain earlier row = Any (λ a. PlaySetAgain a row) earlier

-- a row after the earlier ones has no fault
pub record IsFaultless (shape : Shape) (earlier : List Row) (row : Row) : Type 0 where
  pub pairs : HasPairsWithin shape row
  pub opponents : HasTwoPairs row
  pub set_within : HasSetWithin shape row
  pub one_table : ¬ HasPairTwice earlier row
  pub new_set : ¬ HasSetAgain earlier row

-- the fault of a row after the earlier ones: the first that it has
abbrev pub IsFaultOf : Shape → List Row → Row → MovementRefused → Type 0
IsFaultOf shape earlier row (MissingRow _) = ⊥
IsFaultOf shape earlier row (BadPair _) = ¬ HasPairsWithin shape row
IsFaultOf shape earlier row (SamePair _) = HasPairsWithin shape row × (¬ HasTwoPairs row)
IsFaultOf shape earlier row (BadSet _) = HasPairsWithin shape row × HasTwoPairs row × (¬ HasSetWithin shape row)
IsFaultOf shape earlier row (PairTwice _) =
    HasPairsWithin shape row × HasTwoPairs row × HasSetWithin shape row × HasPairTwice earlier row
IsFaultOf shape earlier row (SetAgain _) =
    HasPairsWithin shape row × HasTwoPairs row × HasSetWithin shape row × (¬ HasPairTwice earlier row)
    × HasSetAgain earlier row

-- the number of the row that a refusal names, from 1
abbrev pub refused_row : MovementRefused → ℕ
refused_row (MissingRow number) = number
refused_row (BadPair number) = number
refused_row (SamePair number) = number
refused_row (BadSet number) = number
refused_row (PairTwice number) = number
refused_row (SetAgain number) = number

-- why the rows are no movement, in a word
abbrev pub refusal_name : MovementRefused → List ℕ
refusal_name (MissingRow number) = codes "MissingRow"
refusal_name (BadPair number) = codes "BadPair"
refusal_name (SamePair number) = codes "SamePair"
refusal_name (BadSet number) = codes "BadSet"
refusal_name (PairTwice number) = codes "PairTwice"
refusal_name (SetAgain number) = codes "SetAgain"

-- the row at an index, after the rows before it, has no fault
abbrev pub IsFaultlessAt : Shape → List Row → ℕ → Type 0
IsFaultlessAt shape rows index =
    (d : Row) → IsFaultless shape (take index rows) (slice_index_or rows index d)

-- the fault of the first row that has one
pub record IsFirstFault (shape : Shape) (rows : List Row) (index : ℕ) (refused : MovementRefused) : Type 0 where
  pub within : index < length rows
  pub here : (d : Row) → IsFaultOf shape (take index rows) (slice_index_or rows index d) refused
  pub before : (k : ℕ) → k < index → IsFaultlessAt shape rows k

-- the refusal of rows: the order of all rows comes before the faults of any
abbrev pub IsRefusal : Shape → List Row → MovementRefused → Type 0
IsRefusal shape rows (MissingRow at) = (index : ℕ) × (at ≡ index + 1) × IsFirstMisplaced shape rows index
IsRefusal shape rows refused =
    (index : ℕ) × (refused_row refused ≡ index + 1) × IsComplete shape rows × IsFirstFault shape rows index refused

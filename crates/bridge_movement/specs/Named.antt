-- The movements that have names, for any number of pairs.
use Rattle.std.specs.Prelude.{ℕ, ◌≡◌, ◌+◌, ◌/◌, ◌%◌, ◌==◌, if◌then◌else◌, map}
use Rattle.bridge_movement.specs.declared.named.NamedMovement.{NamedMovement}
use Rattle.bridge_movement.specs.declared.named.NamedMovement.TheVariants.{Mitchell, Howell}
use Rattle.bridge_movement.specs.HalfTable.{row_without, shape_without_last}
use Rattle.bridge_movement.specs.Howell.{howell_shape, FollowsHowell, IsHowell}
use Rattle.bridge_movement.specs.Mitchell.{mitchell_shape, FollowsMitchell}
use Rattle.bridge_movement.specs.MovementValue.{MovementValue}
use Rattle.bridge_movement.specs.Shape.{IsBetween}

-- the numbers of pairs for which there is such a movement: of 2 to 12 tables, or of 2 to 6
abbrev pub IsFor : NamedMovement → ℕ → Type 0
IsFor Mitchell pairs = IsBetween 3 24 pairs
IsFor Howell pairs = IsBetween 3 12 pairs

-- the movement of that name in which each table is full
abbrev pub IsFull : NamedMovement → ℕ → MovementValue → Type 0
IsFull Mitchell tables movement = (movement.shape ≡ mitchell_shape tables) × FollowsMitchell tables movement.rows
IsFull Howell tables movement =
    (movement.shape ≡ howell_shape tables) × FollowsHowell tables movement.rows × IsHowell movement.shape movement.rows

-- the movement in which the last pair is lacking, and who would meet it sits out
abbrev pub without_last : MovementValue → MovementValue
without_last movement = record {
  shape = shape_without_last movement.shape;
  rows = map (row_without movement.shape.pairs) movement.rows;
}

-- the movement of that name for so many pairs: where they are odd in number, one pair is lacking at the last table
abbrev pub IsNamed : NamedMovement → ℕ → MovementValue → Type 0
IsNamed named pairs movement =
    (full : MovementValue) × IsFull named ((pairs + 1) / 2) full
    × (movement ≡ (if pairs % 2 == 0 then full else without_last full))

-- The numbers of the rows of a movement.
use Rattle.std.proofs.Common.{ℕ, ◌/◌, ◌%◌, ◌<◌, List, length, arith, mod-lt, div-lt_iff_lt-mul, get_or}
use Rattle.bridge_movement.specs.declared.row.Row.{Row}
use Rattle.bridge_movement.specs.declared.shape.Shape.{Shape}
use Rattle.bridge_movement.specs.Shape.{IsShape}
use Rattle.bridge_movement.specs.Fair.{IsDue, IsMovement}
use Rattle.session_rules.specs.Numbers.{IsRoundNumber, IsTableNumber}

-- each row names a round and a table
pub row_numbers : (shape : Shape) (rows : List Row) (index : ℕ) (d : Row) → IsShape shape → IsMovement shape rows → index < length rows → IsRoundNumber (get_or rows index d).round × IsTableNumber (get_or rows index d).table
row_numbers shape rows index d limits movement within =
    let due : IsDue shape index (get_or rows index d) = (movement.complete.order index within).1 d in
    let some : 0 < shape.tables = omega (arith, limits.tables.0) in
    let round : index / shape.tables < shape.rounds = (div-lt_iff_lt-mul some).1 due.0 in
    let table : index % shape.tables < shape.tables = mod-lt index some in (
      ((omega (arith, due.1)), (omega (arith, due.1, round, limits.rounds.1))),
      ((omega (arith, due.2)), (omega (arith, due.2, table, limits.tables.1))),
    )

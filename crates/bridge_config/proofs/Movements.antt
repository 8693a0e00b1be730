-- What follows of a movement: each number of a row fits in a byte, and there is one Mitchell movement of a number of tables.
use Rattle.std.proofs.Common.{ℕ, ◌≡◌, ◌/◌, ◌%◌, ◌<◌, List, length, subst, sym, ap, ◌∙◌, arith}
use Rattle.std.specs.Prelude.{All}
use Rattle.std.proofs.lemmas.List.{same_lists}
use Rattle.std.proofs.lemmas.Nat.{div_below, mod_below}
use Rattle.bridge_movement.proofs.MitchellShape.{mitchell_within}
use Rattle.bridge_movement.specs.declared.row.Row.{Row}
use Rattle.bridge_movement.specs.declared.shape.Shape.{Shape}
use Rattle.bridge_movement.specs.Fair.{IsMovement}
use Rattle.bridge_movement.specs.MovementValue.{MovementValue}
use Rattle.bridge_movement.specs.Shape.{IsShape, row_count}
use Rattle.bridge_config.specs.Spelling.{IsMitchell}
use Rattle.bridge_config.proofs.FiveWordLaws.{IsByteRow}

-- each number of a movement's row fits in a byte
pub movement_in_bytes : (shape : Shape) (rows : List Row) → IsShape shape → IsMovement shape rows → All IsByteRow rows
movement_in_bytes shape rows limits movement k d within =
    let due = (movement.complete.order k within).1 d in
    let pairs = movement.fair.pairs k d within in
    let set = movement.fair.sets k d within in
    let some : 0 < shape.tables = omega (arith, limits.tables) in
    let round : k / shape.tables < shape.rounds = div_below k shape.tables shape.rounds some due.0 in
    let table : k % shape.tables < shape.tables = mod_below k shape.tables some in (
      omega (arith, due.1, limits.rounds),
      omega (arith, due.2, limits.tables),
      omega (arith, pairs.0, limits.pairs),
      omega (arith, pairs.1, limits.pairs),
      omega (arith, set.1, limits.sets),
    )

-- equal shapes with equal rows are equal movements
same_schedule : (shape shape' : Shape) (rows rows' : List Row) → shape ≡ shape' → rows ≡ rows' →
    ◌≡◌ {A = MovementValue} (record { shape = shape; rows = rows }) (record { shape = shape'; rows = rows' })
same_schedule shape shape' rows rows' p q = cc

-- there is one Mitchell movement of a number of tables
pub one_mitchell : (tables : ℕ) (a b : MovementValue) → IsMitchell tables a → IsMitchell tables b → a ≡ b
one_mitchell tables a b p q =
    let shape : a.shape ≡ b.shape = p.shape ∙ sym q.shape in
    let count : length a.rows ≡ length b.rows = p.count ∙ ap row_count shape ∙ sym q.count in
    let rows : a.rows ≡ b.rows =
    same_lists a.rows b.rows count (λ k d h. p.rows k d h ∙ sym (q.rows k d (omega arith))) in
    same_schedule a.shape b.shape a.rows b.rows shape rows

-- a Mitchell movement is within the limits
pub mitchell_shape_within : (tables : ℕ) (movement : MovementValue) → IsMitchell tables movement → IsShape movement.shape
mitchell_shape_within tables movement p =
    subst IsShape (sym p.shape) (mitchell_within tables p.tables_within.0 p.tables_within.1)

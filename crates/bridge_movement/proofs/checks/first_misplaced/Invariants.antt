use Rattle.std.proofs.Common.{ℕ, ◌<◌, ◌≤◌}
use Rattle.bridge_movement.specs.Fair.{IsInPlace}
use Rattle.bridge_movement.specs.Shape.{row_count}
use Rattle.bridge_movement.proofs.checks.first_misplaced.Given as goal

abbrev pub invariant-loop-index : goal.invariant-loop-index
invariant-loop-index l = record {
  due : l.index ≤ row_count l.shape;
  before : (k : ℕ) → k < l.index → IsInPlace l.shape l.rows k;
}

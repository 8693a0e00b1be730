use Rattle.std.proofs.Common.{◌≡◌, map, take}
use Rattle.bridge_movement.specs.HalfTable.{row_without}
use Rattle.bridge_movement.proofs.movement.Movement.without_last.Given as goal

abbrev pub invariant-loop-row : goal.invariant-loop-row
invariant-loop-row l = l.rows.items ≡ map (row_without l.self.shape.pairs) (take l.row-index l.self.rows)

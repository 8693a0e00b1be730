use Rattle.std.proofs.Common.{◌≡◌, length}
use Rattle.bridge_movement.specs.Howell.{FollowsHowell}
use Rattle.bridge_movement.proofs.movement.Movement.howell.Given as goal

abbrev pub invariant-loop-index : goal.invariant-loop-index
invariant-loop-index l = record {
  count : length l.rows.items ≡ l.index;
  rows : FollowsHowell l.tables l.rows.items;
}

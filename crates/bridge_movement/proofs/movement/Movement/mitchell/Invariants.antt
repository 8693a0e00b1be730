use Rattle.std.proofs.Common.{◌≡◌, length}
use Rattle.bridge_movement.specs.Mitchell.{FollowsMitchell}
use Rattle.bridge_movement.proofs.movement.Movement.mitchell.Given as goal

abbrev pub invariant-loop-index : goal.invariant-loop-index
invariant-loop-index l = record {
  count : length l.rows.items ≡ l.index;
  rows : FollowsMitchell l.tables l.rows.items;
}

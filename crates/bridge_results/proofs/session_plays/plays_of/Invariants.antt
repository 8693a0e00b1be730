use Rattle.std.proofs.Common.{◌≡◌, ◌*◌, ◌≤◌, length, take}
use Rattle.std.specs.Prelude.{All, flat_map}
use Rattle.bridge_results.specs.Plays.{plays_at, HasTricksWithin}
use Rattle.bridge_results.proofs.session_plays.plays_of.Given as goal

abbrev pub invariant-loop-row : goal.invariant-loop-row
invariant-loop-row l = record {
  plays : l.plays.items ≡ flat_map (plays_at l.session) (take l.row-index l.rows);
  tricks : All HasTricksWithin l.plays.items;
  few : length l.plays.items ≤ 3 * l.row-index;
}

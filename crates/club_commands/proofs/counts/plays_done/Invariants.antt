use Rattle.std.proofs.Common.{◌≡◌, ◌*◌, ◌≤◌, take}
use Rattle.std.specs.Prelude.{sum_by}
use Rattle.club_commands.specs.Checked.{row_done}
use Rattle.club_commands.proofs.counts.plays_done.Given as goal

abbrev pub invariant-loop-row : goal.invariant-loop-row
invariant-loop-row l = record {
  counted : l.count ≡ sum_by (row_done l.session) (take l.row-index l.rows);
  few : l.count ≤ 3 * l.row-index;
}

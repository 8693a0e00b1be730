use Rattle.std.proofs.Common.{◌≡◌, ◌-◌, ◌≤◌, take, None}
use Rattle.std.specs.List.{range_with_len, find}
use Rattle.event_pbn.specs.Played.{is_played}
use Rattle.event_pbn.proofs.played.first_board.Given as goal

abbrev pub invariant-loop-number : goal.invariant-loop-number
invariant-loop-number l = record {
  none : find (is_played l.results) (take (l.number - 1) (range_with_len 1 36)) ≡ None;
  least : 1 ≤ l.number;
}

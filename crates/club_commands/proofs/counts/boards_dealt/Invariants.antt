use Rattle.std.proofs.Common.{◌≡◌, ◌-◌, ◌≤◌, take}
use Rattle.std.specs.Prelude.{sum_by}
use Rattle.std.specs.List.{range_with_len}
use Rattle.club_commands.specs.Checked.{dealt_boards_at}
use Rattle.club_commands.proofs.counts.boards_dealt.Given as goal

abbrev pub invariant-loop-number : goal.invariant-loop-number
invariant-loop-number l = record {
  counted : l.count ≡ sum_by (dealt_boards_at l.session) (take (l.number - 1) (range_with_len 1 36));
  least : 1 ≤ l.number;
  few : l.count ≤ l.number - 1;
}

use Rattle.std.proofs.Common.{◌≡◌, ◌-◌, ◌+◌, ◌≤◌, take}
use Rattle.std.specs.Prelude.{map}
use Rattle.std.specs.Option.{option_map}
use Rattle.std.specs.List.{range_with_len}
use Rattle.arrayvec.specs.ArrayVec.{array_vec_len}
use Rattle.event_ranking.specs.Dealt.{first_deal}
use Rattle.makeable_deals.specs.Makeable.{table_of}
use Rattle.session_analysis.specs.Analysed.{seen_table}
use Rattle.session_analysis.proofs.event_boards.event_boards_of.Given as goal

abbrev pub invariant-loop-number : goal.invariant-loop-number
invariant-loop-number l = record {
  found : map seen_table l.found.items ≡ map (λ board. option_map table_of (first_deal l.sections board)) (take (l.number - 1) (range_with_len 1 36));
  count : array_vec_len l.found + 1 ≡ l.number;
  least : 1 ≤ l.number;
}

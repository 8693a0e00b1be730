use Rattle.std.proofs.Common.{◌≡◌, ◌-◌, ◌+◌, ◌≤◌, take}
use Rattle.std.specs.Prelude.{map}
use Rattle.std.specs.Option.{option_map}
use Rattle.std.specs.List.{range_with_len}
use Rattle.arrayvec.specs.ArrayVec.{array_vec_len}
use Rattle.session_rules.specs.State.{deal_on}
use Rattle.makeable_deals.specs.Makeable.{table_of}
use Rattle.session_analysis.specs.Analysed.{seen_table}
use Rattle.session_analysis.proofs.boards.boards_of.Given as goal

abbrev pub invariant-loop-number : goal.invariant-loop-number
invariant-loop-number l = record {
  found : map seen_table l.found.items ≡ map (λ board. option_map table_of (deal_on l.session.deals board)) (take (l.number - 1) (range_with_len 1 36));
  count : array_vec_len l.found + 1 ≡ l.number;
  least : 1 ≤ l.number;
}

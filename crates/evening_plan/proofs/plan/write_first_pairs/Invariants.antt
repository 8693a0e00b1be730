use Rattle.std.proofs.Common.{◌-◌, ◌≤◌, take}
use Rattle.std.specs.Prelude.{flat_map}
use Rattle.std.specs.List.{range_with_len}
use Rattle.line_text.specs.Streams.{between, Takes}
use Rattle.evening_plan.specs.Evening.{shown_evening}
use Rattle.evening_plan.specs.PairText.{pair_plan}
use Rattle.evening_plan.proofs.plan.write_first_pairs.Given as goal

abbrev pub invariant-loop-pair : goal.invariant-loop-pair
invariant-loop-pair g l = record {
  taken : Takes (between (g.W.Write.contents l.fn.writer) (g.W.Write.contents l.writer)) (flat_map (pair_plan (shown_evening l.config l.names)) (take (l.pair - 1) (range_with_len 1 l.pairs)));
  least : 1 ≤ l.pair;
}

use Rattle.std.proofs.Common.{◌-◌, ◌≤◌, take}
use Rattle.std.specs.Prelude.{flat_map}
use Rattle.std.specs.List.{range_with_len}
use Rattle.line_text.specs.Streams.{between, Takes}
use Rattle.evening_plan.specs.Evening.{evening_of}
use Rattle.evening_plan.specs.PairText.{round_text}
use Rattle.evening_plan.proofs.pair.write_first_rounds.Given as goal

abbrev pub invariant-loop-round : goal.invariant-loop-round
invariant-loop-round g l = record {
  taken : Takes (between (g.W.Write.contents l.fn.writer) (g.W.Write.contents l.writer)) (flat_map (round_text (evening_of l.config) l.pair) (take (l.round - 1) (range_with_len 1 l.rounds)));
  least : 1 ≤ l.round;
}

use Rattle.std.proofs.Common.{◌≡◌, ◌*◌, take, pos, neg_ℤ, ◌≤ℤ◌}
use Rattle.bridge_score.specs.Comparison.{int_sum_by, imps_against}
use Rattle.event_ranking.proofs.gain.imps_over.Given as goal

abbrev pub invariant-loop-other : goal.invariant-loop-other
invariant-loop-other l = record {
  sum : l.total ≡ int_sum_by (imps_against l.own) (take l.other-index l.others);
  least : neg_ℤ (pos (24 * l.other-index)) ≤ℤ l.total;
  most : l.total ≤ℤ pos (24 * l.other-index);
}

use Rattle.std.proofs.Common.{◌≡◌, ◌*◌, take, pos, neg_ℤ, ◌≤ℤ◌}
use Rattle.bridge_score.specs.Comparison.{int_sum_by}
use Rattle.bridge_results.specs.declared.card.CardLine.{CardLine}
use Rattle.bridge_results.proofs.pages.pair_card.gain_sum.Given as goal

abbrev pub invariant-loop-line : goal.invariant-loop-line
invariant-loop-line l = record {
  sum : l.sum ≡ int_sum_by (λ (line : CardLine). line.gain) (take l.line-index l.lines);
  least : neg_ℤ (pos (2147483648 * l.line-index)) ≤ℤ l.sum;
  most : l.sum ≤ℤ pos (2147483648 * l.line-index);
}

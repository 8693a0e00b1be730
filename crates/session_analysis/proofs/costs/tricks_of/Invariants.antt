use Rattle.std.proofs.Common.{◌≡◌, take}
use Rattle.std.specs.Prelude.{map}
use Rattle.arrayvec.specs.ArrayVec.{array_vec_len}
use Rattle.bridge_endings.specs.declared.card_cost.CardCost.{CardCost}
use Rattle.session_analysis.proofs.costs.tricks_of.Given as goal

abbrev pub invariant-loop-cost : goal.invariant-loop-cost
invariant-loop-cost l = record {
  tricks : l.tricks.items ≡ map (λ (cost : CardCost). cost.tricks) (take l.cost-index l.costs);
  count : array_vec_len l.tricks ≡ l.cost-index;
}

use Rattle.std.proofs.Common.{arith, ap, ◌∙◌}
use Rattle.std.specs.Prelude.{map}
use Rattle.std.proofs.lemmas.List.{take_all}
use Rattle.bridge_endings.specs.declared.card_cost.CardCost.{CardCost}
use Rattle.session_analysis.proofs.OneByOne.{one_mapped}
use Rattle.session_analysis.proofs.costs.tricks_of.Goals as goal

pub loop-cost-preserved : goal.loop-cost-preserved
loop-cost-preserved c = record {
  tricks =
      c.push.ensures.items
      ∙ one_mapped (λ (cost : CardCost). cost.tricks) c.args.costs.now c.loop-cost.cost-index c.cost-item.result c.loop-cost.tricks.items
      c.loop-cost-test.true c.cost-item.is c.loop-cost.invariant.tricks;
  count = omega (arith, c.push.ensures.len, c.loop-cost.invariant.count);
}

pub returns : goal.returns
returns c =
    c.loop-cost.invariant.tricks
    ∙ ap (map (λ (cost : CardCost). cost.tricks)) (take_all c.loop-cost.cost-index c.args.costs.now c.loop-cost-test.false)

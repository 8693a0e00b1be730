use Rattle.std.proofs.Common.{sym, ◌∙◌}
use Rattle.bridge_results.proofs.CostsFound.{costs_found}
use Rattle.bridge_results.proofs.analysis.costs_at.Goals as goal

pub returns-then-is_of : goal.returns-then-is_of
returns-then-is_of c =
    c.as_slice.ensures.value
    ∙ costs_found c.args.plays.now c.args.play.now c.loop-known.known-index c.known-item.result c.loop-known-test.true c.known-item.is (sym c.is_of.ensures ∙ c.if-is_of.true)
    ∙ c.loop-known.invariant

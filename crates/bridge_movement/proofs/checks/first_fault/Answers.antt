use Rattle.std.proofs.Common.{below_more, subst, take}
use Rattle.std.proofs.lemmas.List.{get_or_default}
use Rattle.bridge_movement.specs.declared.row.Row.{Row}
use Rattle.bridge_movement.specs.Refused.{IsFaultlessAt, IsFaultless}
use Rattle.bridge_movement.proofs.checks.first_fault.Goals as goal

pub loop-k-preserved : goal.loop-k-preserved
loop-k-preserved c =
    let rows = c.args.rows.now in
    let P : Row → Type 0 = λ row. IsFaultless c.args.shape (take c.loop-k.k rows) row in
    below_more (λ k. IsFaultlessAt c.args.shape rows k) _ c.loop-k.invariant
    (λ d. subst P (get_or_default rows c.loop-k.k _ d c.loop-k-test.true) c.in_default.ensures.fault)

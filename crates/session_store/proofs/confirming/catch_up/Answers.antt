use Rattle.std.proofs.Common.{arith}
use Rattle.session_store.proofs.StoreLemmas.{caught_up, caught_up-end}
use Rattle.session_store.proofs.confirming.catch_up.Goals as goal

pub loop-action-preserved : goal.loop-action-preserved
loop-action-preserved g c =
    caught_up g.K.Kept.kept _ c.as_slice-action-items.result.now c.loop-action.action-index c.loop-action.base c.step.new.self _ _ c.requires
    c.loop-action.invariant c.loop-action-test.true c.action-item.is c.step.ensures.step

pub returns-clause-base : goal.returns-clause-base
returns-clause-base g c =
    caught_up-end g.K.Kept.kept _ c.as_slice-action-items.result.now c.loop-action.action-index c.loop-action.base c.loop-action.invariant
    (omega (arith, c.loop-action-test.false))

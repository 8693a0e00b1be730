use Rattle.std.proofs.Common.{◌≡◌, drop}
use Rattle.session_store.specs.Keeping.{fold}
use Rattle.session_store.proofs.confirming.catch_up.Given as goal

abbrev pub invariant-loop-action : goal.invariant-loop-action
invariant-loop-action g l =
    fold g.K.Kept.kept l.fn.base l.fn.pending.items ≡ fold g.K.Kept.kept l.base (drop l.action-index l.action-items)

use Rattle.std.proofs.Common.{◌≡◌, None}
use Rattle.std.specs.Prelude.{replicate}
use Rattle.bridge_session.proofs.opening.undealt.Given as goal

abbrev pub invariant-loop : goal.invariant-loop
invariant-loop l = l.deals.items ≡ replicate l.counter None

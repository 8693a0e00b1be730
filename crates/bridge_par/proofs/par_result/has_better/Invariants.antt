use Rattle.std.proofs.Common.{◌≡◌}
use Rattle.bridge_par.specs.Par.{has_better}
use Rattle.bridge_par.proofs.par_result.has_better.Given as goal

abbrev pub invariant-loop-bid : goal.invariant-loop-bid
invariant-loop-bid l = l.found ≡ has_better l.table l.vulnerability l.par l.bid l.side

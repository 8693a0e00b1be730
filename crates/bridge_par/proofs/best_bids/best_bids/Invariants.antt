use Rattle.bridge_par.specs.BestBids.{IsBest}
use Rattle.bridge_par.proofs.best_bids.best_bids.Given as goal

abbrev pub invariant-loop-bid : goal.invariant-loop-bid
invariant-loop-bid l = IsBest l.table l.vulnerability l.bid l.best

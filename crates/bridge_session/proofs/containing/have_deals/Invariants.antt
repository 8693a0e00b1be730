use Rattle.std.proofs.Common.{drop}
use Rattle.std.specs.List.{AllZip}
use Rattle.bridge_session.specs.HasAll.{HasDeal}
use Rattle.bridge_session.proofs.HasAllLaws.{IsStill}
use Rattle.bridge_session.proofs.containing.have_deals.Given as goal

abbrev pub invariant-loop-our : goal.invariant-loop-our
invariant-loop-our l = IsStill (AllZip HasDeal l.fn.ours l.fn.theirs) (AllZip HasDeal (drop l.our-index l.fn.ours) l.rest)

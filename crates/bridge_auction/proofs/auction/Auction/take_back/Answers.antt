use Rattle.bridge_auction.specs.Legal.{MayFollow}
use Rattle.bridge_auction.proofs.LessLast.{each_may_follow-less_last}
use Rattle.bridge_auction.proofs.auction.Auction.take_back.Goals as goal

pub invariant_of-self : goal.invariant_of-self
invariant_of-self c = rw c.pop.ensures.rest (each_may_follow-less_last MayFollow c.self.inside.calls.items c.self.invariant)

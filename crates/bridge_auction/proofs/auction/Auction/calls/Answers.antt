use Rattle.bridge_auction.proofs.LegalLength.{legal_length}
use Rattle.bridge_auction.proofs.auction.Auction.calls.Goals as goal

pub returns-clause-legal : goal.returns-clause-legal
returns-clause-legal c = rw c.as_slice.ensures.value c.self.invariant

pub returns-clause-few : goal.returns-clause-few
returns-clause-few c = rw c.as_slice.ensures.value (legal_length c.self.inside.calls.items c.self.invariant)

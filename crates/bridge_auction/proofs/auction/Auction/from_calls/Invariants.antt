use Rattle.std.proofs.Common.{◌≡◌, take}
use Rattle.bridge_auction.specs.Auction.{bidding}
use Rattle.bridge_auction.specs.Legal.{IsLegal}
use Rattle.bridge_auction.proofs.auction.Auction.from_calls.Given as goal

abbrev pub invariant-loop-call : goal.invariant-loop-call
invariant-loop-call l = record {
  so_far : l.auction ≡ bidding l.fn.dealer (take l.call-index l.calls);
  legal : IsLegal l.auction.calls;
}

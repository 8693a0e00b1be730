use Rattle.std.proofs.Common.{rules}
use Rattle.bridge_auction.specs.Call.{is_bid}
use Rattle.bridge_auction.proofs.Indices.{last_index_is}
use Rattle.bridge_auction.proofs.rules.last_bid.Goals as goal

pub returns : goal.returns
returns c = last_index_is is_bid c.args.calls.now c.rposition.result (search rules)

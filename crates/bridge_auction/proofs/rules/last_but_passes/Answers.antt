use Rattle.std.proofs.Common.{rules, not}
use Rattle.bridge_auction.specs.Call.{is_pass}
use Rattle.bridge_auction.proofs.Indices.{last_index_is}
use Rattle.bridge_auction.proofs.rules.last_but_passes.Goals as goal

pub returns-clause-index : goal.returns-clause-index
returns-clause-index c = last_index_is (λ call. not (is_pass call)) c.args.calls.now c.rposition.result (search rules)

use Rattle.std.proofs.Common.{rules, arith}
use Rattle.bridge_endings.proofs.TrumpsTested.{tops_are}
use Rattle.bridge_endings.proofs.top_trumps.top_trumps.Goals as goal

pub returns-clause-tops : goal.returns-clause-tops
returns-clause-tops c =
    tops_are c.args.hands.now c.args.left c.args.seat c.args.trump c.args.won c.in_ok-lowest.lowest c.upwards-tops.result c.held-own.result c.of_suit-trumps.result c.intersection.result
    c.of_suit-trumps.ensures (search rules) c.upwards-tops.ensures (c.are_not_theirs.ensures (search rules)) c.held-own.ensures c.intersection.ensures (omega (arith, c.len.ensures.count))

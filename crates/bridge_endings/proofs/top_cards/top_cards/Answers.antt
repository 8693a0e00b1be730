use Rattle.std.proofs.Common.{rules, arith}
use Rattle.bridge_endings.proofs.TopCardsTested.{apart_if, many_common}
use Rattle.bridge_endings.proofs.top_cards.top_cards.Goals as goal

pub returns-clause-apart : goal.returns-clause-apart
returns-clause-apart c =
    apart_if c.from_lowest-tops.result c.args.others c.intersection.result c.intersection.ensures (c.is_empty.ensures.zero.0 (search rules))

pub returns-clause-many : goal.returns-clause-many
returns-clause-many c =
    many_common c.from_lowest-tops.result c.args.own c.intersection-else-not-is_empty.result c.args.won c.intersection-else-not-is_empty.ensures (omega (arith, c.len-else-not-is_empty.ensures.count))

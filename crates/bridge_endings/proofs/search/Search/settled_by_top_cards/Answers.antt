use Rattle.std.proofs.Common.{rules}
use Rattle.bridge_endings.proofs.TopCardsTested.{tops_answer}
use Rattle.bridge_endings.proofs.search.Search.settled_by_top_cards.Goals as goal

pub returns-else-not-have_each : goal.returns-else-not-have_each
returns-else-not-have_each c =
    tops_answer c.args.hands.now c.args.self.now.trump c.args.left c.requires c.args.leader c.held-own.result c.difference-others.result c.in_ok-counts-in-None.counts c.held-own.ensures c.difference-others.ensures c.in-None.ensures.none
    c.in_ok-counts-in-None.ensures.upward c.in_ok-counts-in-None.ensures.apart c.settling-won.result _ c.in_ok-counts-in-None.ensures.many c.args.tricks c.args.need (c.have_each.ensures (search rules)) c.settling-won.ensures c.is_sought.result c.is_sought.ensures

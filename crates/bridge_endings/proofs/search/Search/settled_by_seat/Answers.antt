use Rattle.std.proofs.Common.{rules}
use Rattle.bridge_endings.proofs.TrumpsTested.{trumps_answer}
use Rattle.bridge_endings.proofs.search.Search.settled_by_seat.Goals as goal

pub returns : goal.returns
returns c = λ leader.
    trumps_answer c.args.hands.now c.args.left c.requires c.args.self.now.trump c.in_ok-trump.trump (search rules) c.args.seat c.settling-won.result c.in_ok-counts.counts _ c.in_ok-counts.ensures.upward c.in_ok-counts.ensures.tops
    c.args.tricks c.args.need (c.have_each.ensures (search rules)) c.settling-won.ensures c.is_sought.result c.is_sought.ensures leader

use Rattle.std.proofs.Common.{arith}
use Rattle.bridge_endings.proofs.Reached.{sure_answer}
use Rattle.bridge_endings.proofs.search.Search.seen_at_once.Goals as goal

pub returns-in-Some : goal.returns-in-Some
returns-in-Some c = c.in-Some.ensures c.args.leader

pub returns : goal.returns
returns c =
    sure_answer c.args.hands.now c.args.left c.requires.dealt c.args.self.now.trump c.args.leader c.in_ok-card.card c.upwards.result _ c.in_ok-card.ensures c.upwards.ensures
    c.args.tricks c.args.need c.requires.some (omega arith) c.is_sought.result c.is_sought.ensures

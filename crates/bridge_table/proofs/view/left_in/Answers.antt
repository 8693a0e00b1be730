use Rattle.session_rules.proofs.Shown.{left_is}
use Rattle.bridge_table.proofs.view.left_in.Goals as goal

pub returns : goal.returns
returns c = left_is c.remaining.result c.args.play.now.hands c.args.play.now.cards c.args.seat c.remaining.ensures

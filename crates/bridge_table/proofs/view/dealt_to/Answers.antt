use Rattle.session_rules.proofs.Shown.{dealt_is}
use Rattle.bridge_table.proofs.view.dealt_to.Goals as goal

pub returns : goal.returns
returns c = dealt_is c.hand.result c.args.deal.now c.args.seat c.hand.ensures.hand

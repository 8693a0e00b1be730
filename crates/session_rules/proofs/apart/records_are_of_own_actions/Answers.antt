use Rattle.session_rules.proofs.PlainLaw.{records_plain}
use Rattle.session_rules.proofs.apart.records_are_of_own_actions.Goals as goal

pub returns : goal.returns
returns c = records_plain

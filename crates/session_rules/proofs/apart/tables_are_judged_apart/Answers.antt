use Rattle.session_rules.proofs.SameAnswer.{answer_same}
use Rattle.session_rules.proofs.apart.tables_are_judged_apart.Goals as goal

pub returns : goal.returns
returns c = answer_same

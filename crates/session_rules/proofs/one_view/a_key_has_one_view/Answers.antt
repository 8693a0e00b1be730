use Rattle.session_rules.proofs.OneView.{one_view}
use Rattle.session_rules.proofs.one_view.a_key_has_one_view.Goals as goal

pub returns : goal.returns
returns c = one_view

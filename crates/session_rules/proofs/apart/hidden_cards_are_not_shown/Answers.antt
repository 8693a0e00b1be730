use Rattle.session_rules.proofs.SameView.{shown_same, view_same, stage_same}
use Rattle.session_rules.proofs.apart.hidden_cards_are_not_shown.Goals as goal

pub returns-clause-shown : goal.returns-clause-shown
returns-clause-shown c = shown_same

pub returns-clause-views : goal.returns-clause-views
returns-clause-views c = view_same

pub returns-clause-stages : goal.returns-clause-stages
returns-clause-stages c = stage_same

use Rattle.desk_replies.proofs.SameDesk.{told_same}
use Rattle.desk_replies.proofs.laws.desks_show_no_hidden_card.Goals as goal

pub returns : goal.returns
returns c = told_same

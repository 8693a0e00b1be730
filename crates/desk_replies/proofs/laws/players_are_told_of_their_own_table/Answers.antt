use Rattle.desk_replies.proofs.SameDesk.{told_alike}
use Rattle.desk_replies.proofs.laws.players_are_told_of_their_own_table.Goals as goal

pub returns : goal.returns
returns c = told_alike

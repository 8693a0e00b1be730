use Rattle.board_replies.proofs.Standing.{shown_stands}
use Rattle.board_replies.proofs.laws.rulings_told_stand.Goals as goal

pub returns : goal.returns
returns c = shown_stands

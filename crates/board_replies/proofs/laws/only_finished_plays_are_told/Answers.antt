use Rattle.board_replies.proofs.OverPlays.{all_over}
use Rattle.board_replies.proofs.laws.only_finished_plays_are_told.Goals as goal

pub returns : goal.returns
returns c = all_over

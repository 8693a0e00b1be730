use Rattle.board_replies.proofs.SameBoards.{asked_same}
use Rattle.board_replies.proofs.laws.players_are_told_of_finished_plays_alone.Goals as goal

pub returns : goal.returns
returns c is_open asked s t = asked_same s t is_open asked

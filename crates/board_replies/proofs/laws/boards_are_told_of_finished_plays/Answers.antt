use Rattle.board_replies.proofs.SameBoards.{boards_same}
use Rattle.board_replies.proofs.laws.boards_are_told_of_finished_plays.Goals as goal

pub returns : goal.returns
returns c = boards_same

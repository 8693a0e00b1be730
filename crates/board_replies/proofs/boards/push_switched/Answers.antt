use Rattle.std.proofs.Common.{[], sym, append-nil}
use Rattle.board_replies.proofs.OwnTexts.{then_ok, told_around}
use Rattle.board_replies.proofs.boards.push_switched.Goals as goal

pub returns : goal.returns
returns c =
    then_ok c.push_str.result
    (told_around c.args.to_open [] _ _ _ _ c.in_ok-push_head.ensures (sym (append-nil _)))
    c.push_str.ensures

use Rattle.board_replies.specs.Rulings.{ruled_lines}
use Rattle.board_replies.proofs.OwnTexts.{then_ok, told_around}
use Rattle.board_replies.proofs.boards.push_rulings_text.Goals as goal

pub returns : goal.returns
returns c =
    then_ok c.push_str.result
    (told_around c.args.is_open (ruled_lines c.args.session.now) _ _ _ _ c.in_ok-push_head.ensures c.in_ok-push_rulings.ensures)
    c.push_str.ensures

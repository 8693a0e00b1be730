use Rattle.std.proofs.Common.{refl}
use Rattle.line_text.specs.Lines.{lines_text}
use Rattle.board_replies.specs.Rulings.{ruled_at}
use Rattle.board_replies.proofs.OwnTexts.{then_ok, lines_append, three}
use Rattle.board_replies.proofs.rulings.push_ruled_in.Goals as goal

pub returns : goal.returns
returns c =
    then_ok c.push_ruled_at-3.result
    (three lines_text lines_append refl (ruled_at c.args.session.now c.args.row) _ _ _ _ c.in_ok-push_ruled_at.ensures c.in_ok-push_ruled_at-2.ensures)
    c.push_ruled_at-3.ensures

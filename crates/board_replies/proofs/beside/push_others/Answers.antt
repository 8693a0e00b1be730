use Rattle.board_replies.specs.Beside.{other_in}
use Rattle.board_replies.proofs.OwnTexts.{found_more}
use Rattle.board_replies.proofs.beside.push_others.Goals as goal

pub loop-line-preserved : goal.loop-line-preserved
loop-line-preserved c =
    found_more (other_in c.args.row) c.args.lines.now c.loop-line.line-index c.line-item.result _ _ _ c.loop-line-test.true c.line-item.is
    c.loop-line.invariant c.in_ok-push_other.ensures

use Rattle.std.specs.List.{filter_map}
use Rattle.board_replies.specs.Beside.{other_in, worth_line}
use Rattle.board_replies.proofs.OwnTexts.{then_ok, lines_then_one}
use Rattle.board_replies.proofs.beside.push_board.Goals as goal

pub returns : goal.returns
returns c =
    let lines = c.args.lines.now in
    then_ok c.push_worth_line.result
    (lines_then_one (filter_map (other_in c.args.row) lines) (worth_line c.args.scoring c.args.side c.args.row lines) _ _ _ c.in_ok-push_others.ensures)
    c.push_worth_line.ensures

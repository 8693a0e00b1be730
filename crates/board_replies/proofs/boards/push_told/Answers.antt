use Rattle.std.specs.Prelude.{flat_map}
use Rattle.board_replies.specs.OwnPlays.{own_plays}
use Rattle.board_replies.specs.Told.{own_lines}
use Rattle.board_replies.proofs.OwnTexts.{then_ok, told_around}
use Rattle.board_replies.proofs.boards.push_told.Goals as goal

pub returns : goal.returns
returns c =
    let s = c.args.session.now in
    then_ok c.push_str.result
    (told_around c.args.is_open (flat_map (own_lines s c.args.is_open) (own_plays s c.args.pair)) _ _ _ _ c.in_ok-push_head.ensures c.in_ok-push_own_plays.ensures)
    c.push_str.ensures

use Rattle.std.proofs.Common.{refl}
use Rattle.board_replies.specs.OwnPlays.{own_play_at}
use Rattle.board_replies.specs.Told.{own_text}
use Rattle.board_replies.proofs.OwnTexts.{then_ok, own_append, three}
use Rattle.board_replies.proofs.own_plays.push_own_plays_at.Goals as goal

pub returns : goal.returns
returns c =
    let s = c.args.told.now.session.now in
    then_ok c.push_own_play_at-3.result
    (three (own_text s c.args.told.now.is_open) (own_append s c.args.told.now.is_open) refl (own_play_at s c.args.row c.args.side) _ _ _ _ c.in_ok-push_own_play_at.ensures
    c.in_ok-push_own_play_at-2.ensures)
    c.push_own_play_at-3.ensures

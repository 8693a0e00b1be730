use Rattle.std.proofs.Common.{◌≡◌, ◌++◌, take}
use Rattle.std.specs.Prelude.{flat_map}
use Rattle.board_replies.specs.OwnPlays.{own_plays_in}
use Rattle.board_replies.specs.Told.{own_text}
use Rattle.board_replies.proofs.own_plays.push_own_plays.Given as goal

abbrev pub invariant-loop-row : goal.invariant-loop-row
invariant-loop-row l =
    l.text.items ≡ l.fn.text.items ++ own_text l.told.session.now l.told.is_open (flat_map (own_plays_in l.told.session.now l.pair) (take l.row-index l.rows))

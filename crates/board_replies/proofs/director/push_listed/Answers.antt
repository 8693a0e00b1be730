use Rattle.std.specs.Prelude.{None}
use Rattle.bridge_config.specs.ConfigValue.{configuration_of}
use Rattle.board_replies.specs.KnownPlay.{seen_play}
use Rattle.board_replies.specs.PlayLines.{play_lines}
use Rattle.board_replies.proofs.OwnTexts.{then_ok, listed_around}
use Rattle.board_replies.proofs.director.push_listed.Goals as goal

pub returns : goal.returns
returns c =
    then_ok c.push_str-2.result
    (listed_around (play_lines (configuration_of c.args.fields.now) c.args.row c.args.index None (seen_play c.args.known.now)) _ _ _ _ c.in_ok-push_str.ensures
    c.in_ok-push_play.ensures)
    c.push_str-2.ensures

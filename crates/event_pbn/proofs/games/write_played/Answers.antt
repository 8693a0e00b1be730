use Rattle.std.proofs.Common.{sym, ◌∙◌}
use Rattle.event_pbn.specs.EventGames.{seen}
use Rattle.event_pbn.proofs.PlayedGame.{played_some}
use Rattle.event_pbn.proofs.games.write_played.Goals as goal

pub returns : goal.returns
returns g c =
    rw (played_some (seen c.args.games.now) c.args.board c.args.plays.now (sym c.is_empty.ensures ∙ c.if-is_empty.false)) at c.write_game.ensures

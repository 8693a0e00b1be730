use Rattle.std.proofs.Common.{sym, ◌∙◌}
use Rattle.results_pbn.specs.Totals.{seen}
use Rattle.results_pbn.proofs.Played.{played_some}
use Rattle.results_pbn.proofs.games.write_played.Goals as goal

pub returns : goal.returns
returns g c =
    rw (played_some c.args.session.now c.args.boards.now (seen c.args.totals.now) c.args.board c.args.lines.now (sym c.is_empty.ensures ∙ c.if-is_empty.false))
    at c.write_game.ensures

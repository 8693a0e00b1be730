use Rattle.page_layout.proofs.Walk.{then_written, failed_before}
use Rattle.event_pbn.specs.EventGames.{board_game}
use Rattle.event_pbn.proofs.games.write_game.Goals as goal

pub returns-in_err-write_start : goal.returns-in_err-write_start
unfolding board_game
returns-in_err-write_start g c = failed_before _ _ _ _ _ c.from_residual.ensures.0 c.in_err-write_start.ensures

pub returns : goal.returns
unfolding board_game
returns g c = then_written _ _ _ _ _ _ c.in_ok-write_start.ensures c.write_tables.ensures

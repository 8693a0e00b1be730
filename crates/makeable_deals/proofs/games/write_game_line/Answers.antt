use Rattle.page_layout.proofs.Walk.{then_written, failed_before}
use Rattle.makeable_deals.proofs.games.write_game_line.Goals as goal

pub returns-in_err-write_whole_line : goal.returns-in_err-write_whole_line
returns-in_err-write_whole_line g c = failed_before _ _ _ _ _ c.from_residual.ensures.0 c.in_err-write_whole_line.ensures

pub returns : goal.returns
returns g c = then_written _ _ _ _ _ _ c.in_ok-write_whole_line.ensures c.write_after.ensures

use Rattle.page_layout.proofs.Walk.{then_written, failed_before}
use Rattle.evening_slips.specs.Slips.{pair_text}
use Rattle.evening_slips.proofs.slips.write_pair.Goals as goal

pub returns-in_err-write_player : goal.returns-in_err-write_player
unfolding pair_text
returns-in_err-write_player g c = failed_before _ _ _ _ _ c.from_residual.ensures.0 c.in_err-write_player.ensures

pub returns : goal.returns
unfolding pair_text
returns g c = then_written _ _ _ _ _ _ c.in_ok-write_player.ensures c.write_player-2.ensures

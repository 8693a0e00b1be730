use Rattle.page_layout.proofs.Walk.{then_written, failed_before}
use Rattle.results_pbn.specs.Games.{board_start}
use Rattle.results_pbn.proofs.games.write_start.Goals as goal

pub returns-in_err-write_head : goal.returns-in_err-write_head
unfolding board_start
returns-in_err-write_head g c =
    failed_before _ _ _ _ _ c.from_residual.ensures.0 (rw (c.config.ensures, c.deal.ensures) at c.in_err-write_head.ensures)

pub returns : goal.returns
unfolding board_start
returns g c =
    then_written _ _ _ _ _ _ (rw (c.config.ensures, c.deal.ensures) at c.in_ok-write_head.ensures)
    (rw c.makeable_on.ensures at c.write_known.ensures)

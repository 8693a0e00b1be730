use Rattle.page_layout.proofs.Walk.{then_written, failed_before}
use Rattle.event_pbn.specs.EventGames.{board_start}
use Rattle.event_pbn.proofs.games.write_start.Goals as goal

pub returns-in_err-write_head : goal.returns-in_err-write_head
unfolding board_start
returns-in_err-write_head g c =
    failed_before _ _ _ _ _ c.from_residual.ensures.0 (rw (c.first_deal-deal.ensures, c.sections.ensures.sections) at c.in_err-write_head.ensures)

pub returns : goal.returns
unfolding board_start
returns g c =
    then_written _ _ _ _ _ _ (rw (c.first_deal-deal.ensures, c.sections.ensures.sections) at c.in_ok-write_head.ensures)
    (rw c.makeable_on.ensures at c.write_known.ensures)

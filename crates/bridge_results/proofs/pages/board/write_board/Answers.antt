use Rattle.page_layout.proofs.Walk.{then_written, failed_before}
use Rattle.bridge_results.proofs.pages.board.write_board.Goals as goal

pub returns-in_err-write_head : goal.returns-in_err-write_head
returns-in_err-write_head g c = failed_before _ _ _ _ _ c.from_residual.ensures.0 c.in_err-write_head.ensures

pub returns-in_err-write_deal : goal.returns-in_err-write_deal
returns-in_err-write_deal g c =
    then_written _ _ _ _ _ _ c.in_ok-write_head.ensures (failed_before _ _ _ _ _ c.from_residual-in_err-write_deal.ensures.0 c.in_err-write_deal.ensures)

pub returns : goal.returns
returns g c =
    then_written _ _ _ _ _ _ c.in_ok-write_head.ensures (then_written _ _ _ _ _ _ c.in_ok-write_deal.ensures c.write_tables.ensures)

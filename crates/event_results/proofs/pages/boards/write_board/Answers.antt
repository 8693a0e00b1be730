use Rattle.page_layout.proofs.Walk.{then_written, failed_before}
use Rattle.event_results.proofs.pages.boards.write_board.Goals as goal

pub returns-in_err-write_head : goal.returns-in_err-write_head
returns-in_err-write_head g c =
    failed_before _ _ _ _ _ c.from_residual.ensures.0 c.in_err-write_head.ensures

pub returns-in_err-write_board_deal : goal.returns-in_err-write_board_deal
returns-in_err-write_board_deal g c =
    then_written _ _ _ _ _ _ c.in_ok-write_head.ensures
    (failed_before _ _ _ _ _ c.from_residual-in_err-write_board_deal.ensures.0 c.in_err-write_board_deal.ensures)

pub returns : goal.returns
returns g c =
    then_written _ _ _ _ _ _ c.in_ok-write_head.ensures
    (then_written _ _ _ _ _ _ c.in_ok-write_board_deal.ensures c.write_tables.ensures)

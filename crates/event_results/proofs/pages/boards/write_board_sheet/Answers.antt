use Rattle.page_layout.proofs.Walk.{then_written, failed_before}
use Rattle.event_results.proofs.pages.boards.write_board_sheet.Goals as goal

pub returns-in_err-write_sheet_head : goal.returns-in_err-write_sheet_head
returns-in_err-write_sheet_head g c =
    failed_before _ _ _ _ _ c.from_residual.ensures.0 c.in_err-write_sheet_head.ensures

pub returns-in_err-write_boards : goal.returns-in_err-write_boards
returns-in_err-write_boards g c =
    then_written _ _ _ _ _ _ c.in_ok-write_sheet_head.ensures
    (failed_before _ _ _ _ _ c.from_residual-in_err-write_boards.ensures.0 c.in_err-write_boards.ensures)

pub returns : goal.returns
returns g c =
    then_written _ _ _ _ _ _ c.in_ok-write_sheet_head.ensures
    (then_written _ _ _ _ _ _ c.in_ok-write_boards.ensures c.write_end.ensures)

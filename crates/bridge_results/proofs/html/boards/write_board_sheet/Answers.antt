use Rattle.page_layout.proofs.Walk.{then_written, failed_before}
use Rattle.bridge_results.proofs.html.boards.write_board_sheet.Goals as goal

pub returns-in_err-write_sheet_start : goal.returns-in_err-write_sheet_start
returns-in_err-write_sheet_start g c =
    failed_before _ _ _ _ _ c.from_residual.ensures.0 c.in_err-write_sheet_start.ensures

pub returns-in_err-write_note : goal.returns-in_err-write_note
returns-in_err-write_note g c =
    then_written _ _ _ _ _ _ c.in_ok-write_sheet_start.ensures
    (failed_before _ _ _ _ _ c.from_residual-in_err-write_note.ensures.0 c.in_err-write_note.ensures)

pub returns-in_err-write_boards : goal.returns-in_err-write_boards
returns-in_err-write_boards g c =
    then_written _ _ _ _ _ _ c.in_ok-write_sheet_start.ensures
    (then_written _ _ _ _ _ _ c.in_ok-write_note.ensures
    (failed_before _ _ _ _ _ c.from_residual-in_err-write_boards.ensures.0 c.in_err-write_boards.ensures))

pub returns : goal.returns
returns g c =
    then_written _ _ _ _ _ _ c.in_ok-write_sheet_start.ensures
    (then_written _ _ _ _ _ _ c.in_ok-write_note.ensures
    (then_written _ _ _ _ _ _ c.in_ok-write_boards.ensures c.write_end.ensures))

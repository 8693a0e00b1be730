use Rattle.page_layout.proofs.Walk.{then_written, failed_before}
use Rattle.bridge_results.proofs.PageParts.{then_failed}
use Rattle.bridge_results.proofs.html.page.write_html.Goals as goal

pub returns-in_err-write_front : goal.returns-in_err-write_front
returns-in_err-write_front g c =
    failed_before _ _ _ _ _ c.from_residual.ensures.0 (rw c.config.ensures at c.in_err-write_front.ensures)

pub returns-in_err-write_board_sheet : goal.returns-in_err-write_board_sheet
returns-in_err-write_board_sheet g c =
    then_failed _ _ _ _ _ _ _ c.from_residual-in_err-write_board_sheet.ensures.0 (rw c.config.ensures at c.in_ok-write_front.ensures)
    c.in_err-write_board_sheet.ensures

pub returns : goal.returns
returns g c =
    then_written _ _ _ _ _ _ (rw c.config.ensures at c.in_ok-write_front.ensures)
    (then_written _ _ _ _ _ _ c.in_ok-write_board_sheet.ensures c.write_card_sheet.ensures)

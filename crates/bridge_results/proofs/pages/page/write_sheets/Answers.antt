use Rattle.page_layout.proofs.Walk.{then_written, failed_before}
use Rattle.bridge_results.specs.ResultsText.{sheets_text}
use Rattle.bridge_results.proofs.PageParts.{then_failed}
use Rattle.bridge_results.proofs.pages.page.write_sheets.Goals as goal

pub returns-in_err-write_board_sheet : goal.returns-in_err-write_board_sheet
unfolding sheets_text
returns-in_err-write_board_sheet g c = failed_before _ _ _ _ _ c.from_residual.ensures.0 c.in_err-write_board_sheet.ensures

pub returns-in_err-write_card_sheet : goal.returns-in_err-write_card_sheet
unfolding sheets_text
returns-in_err-write_card_sheet g c =
    then_failed _ _ _ _ _ _ _ c.from_residual-in_err-write_card_sheet.ensures.0 c.in_ok-write_board_sheet.ensures c.in_err-write_card_sheet.ensures

pub returns : goal.returns
unfolding sheets_text
returns g c =
    then_written _ _ _ _ _ _ c.in_ok-write_board_sheet.ensures
    (then_written _ _ _ _ _ _ c.in_ok-write_card_sheet.ensures c.write_page_end.ensures)

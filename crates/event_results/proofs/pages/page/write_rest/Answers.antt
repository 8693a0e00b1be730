use Rattle.page_layout.proofs.Walk.{then_written, failed_before}
use Rattle.event_results.proofs.pages.page.write_rest.Goals as goal

pub returns-in_err-write_board_sheet : goal.returns-in_err-write_board_sheet
returns-in_err-write_board_sheet g c =
    failed_before _ _ _ _ _ c.from_residual.ensures.0 c.in_err-write_board_sheet.ensures

pub returns : goal.returns
returns g c =
    then_written _ _ _ _ _ _ c.in_ok-write_board_sheet.ensures c.write_page_end.ensures

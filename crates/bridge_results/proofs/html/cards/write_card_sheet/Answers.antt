use Rattle.page_layout.proofs.Walk.{then_written, failed_before}
use Rattle.bridge_results.proofs.html.cards.write_card_sheet.Goals as goal

pub returns-in_err-write_sheet_start : goal.returns-in_err-write_sheet_start
returns-in_err-write_sheet_start g c =
    failed_before _ _ _ _ _ c.from_residual.ensures.0 c.in_err-write_sheet_start.ensures

pub returns-in_err-write_all_cards : goal.returns-in_err-write_all_cards
returns-in_err-write_all_cards g c =
    then_written _ _ _ _ _ _ c.in_ok-write_sheet_start.ensures
    (failed_before _ _ _ _ _ c.from_residual-in_err-write_all_cards.ensures.0 c.in_err-write_all_cards.ensures)

pub returns : goal.returns
returns g c =
    then_written _ _ _ _ _ _ c.in_ok-write_sheet_start.ensures
    (then_written _ _ _ _ _ _ c.in_ok-write_all_cards.ensures c.write_sheet_end.ensures)

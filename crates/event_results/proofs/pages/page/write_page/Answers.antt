use Rattle.page_layout.proofs.Walk.{then_written, failed_before}
use Rattle.event_results.proofs.pages.page.write_page.Goals as goal

pub returns-in_err-write_first_event : goal.returns-in_err-write_first_event
returns-in_err-write_first_event g c =
    failed_before _ _ _ _ _ c.from_residual.ensures.0 (rw c.sections-sections.ensures.sections at c.in_err-write_first_event.ensures)

pub returns-in_err-write_sheets : goal.returns-in_err-write_sheets
returns-in_err-write_sheets g c =
    then_written _ _ _ _ _ _ (rw c.sections-sections.ensures.sections at c.in_ok-write_first_event.ensures)
    (failed_before _ _ _ _ _ c.from_residual-in_err-write_sheets.ensures.0 (rw c.sections-sections.ensures.sections at c.in_err-write_sheets.ensures))

pub returns : goal.returns
returns g c =
    then_written _ _ _ _ _ _ (rw c.sections-sections.ensures.sections at c.in_ok-write_first_event.ensures)
    (then_written _ _ _ _ _ _ (rw c.sections-sections.ensures.sections at c.in_ok-write_sheets.ensures) c.write_rest.ensures)

use Rattle.page_layout.proofs.Walk.{then_written, failed_before}
use Rattle.bridge_results.proofs.pages.page.write_page.Goals as goal

pub returns-in_err-write_front : goal.returns-in_err-write_front
returns-in_err-write_front g c =
    failed_before _ _ _ _ _ c.from_residual.ensures.0 (rw c.config.ensures at c.in_err-write_front.ensures)

pub returns : goal.returns
returns g c =
    then_written _ _ _ _ _ _ (rw c.config.ensures at c.in_ok-write_front.ensures) c.write_sheets.ensures

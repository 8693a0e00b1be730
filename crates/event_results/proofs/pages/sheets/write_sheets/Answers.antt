use Rattle.page_layout.proofs.Walk.{then_written, failed_before}
use Rattle.event_results.proofs.pages.sheets.write_sheets.Goals as goal

pub returns-in_err-write_both : goal.returns-in_err-write_both
returns-in_err-write_both g c =
    failed_before _ _ _ _ _ c.from_residual.ensures.0 (rw (c.over_all-all.ensures, c.over_all-others.ensures) at c.in_err-write_both.ensures)

pub returns : goal.returns
returns g c =
    then_written _ _ _ _ _ _ (rw (c.over_all-all.ensures, c.over_all-others.ensures) at c.in_ok-write_both.ensures) c.write_sections.ensures

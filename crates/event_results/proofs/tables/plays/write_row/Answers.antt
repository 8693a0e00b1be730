use Rattle.page_layout.proofs.Walk.{then_written, failed_before}
use Rattle.event_results.proofs.tables.plays.write_row.Goals as goal

pub returns-in_err-write_section : goal.returns-in_err-write_section
returns-in_err-write_section g c =
    failed_before _ _ _ _ _ c.from_residual.ensures.0 c.in_err-write_section.ensures

pub returns : goal.returns
returns g c =
    then_written _ _ _ _ _ _ c.in_ok-write_section.ensures c.write_line.ensures

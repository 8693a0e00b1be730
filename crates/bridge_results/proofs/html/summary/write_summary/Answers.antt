use Rattle.page_layout.proofs.Walk.{then_written, failed_before}
use Rattle.bridge_results.proofs.html.summary.write_summary.Goals as goal

pub returns-in_err-write_first : goal.returns-in_err-write_first
returns-in_err-write_first g c =
    failed_before _ _ _ _ _ c.from_residual.ensures.0 c.in_err-write_first.ensures

pub returns-in_err-write_second : goal.returns-in_err-write_second
returns-in_err-write_second g c =
    then_written _ _ _ _ _ _ c.in_ok-write_first.ensures
    (failed_before _ _ _ _ _ c.from_residual-in_err-write_second.ensures.0 c.in_err-write_second.ensures)

pub returns : goal.returns
returns g c =
    then_written _ _ _ _ _ _ c.in_ok-write_first.ensures
    (then_written _ _ _ _ _ _ c.in_ok-write_second.ensures c.write_summary_end.ensures)

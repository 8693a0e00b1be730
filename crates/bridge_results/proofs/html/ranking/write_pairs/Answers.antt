use Rattle.page_layout.proofs.Walk.{then_written, failed_before}
use Rattle.bridge_results.proofs.html.ranking.write_pairs.Goals as goal

pub returns-in_err-write_start : goal.returns-in_err-write_start
returns-in_err-write_start g c =
    failed_before _ _ _ _ _ c.from_residual.ensures.0 c.in_err-write_start.ensures

pub returns-in_err-write_rows : goal.returns-in_err-write_rows
returns-in_err-write_rows g c =
    then_written _ _ _ _ _ _ c.in_ok-write_start.ensures
    (failed_before _ _ _ _ _ c.from_residual-in_err-write_rows.ensures.0 c.in_err-write_rows.ensures)

pub returns : goal.returns
returns g c =
    then_written _ _ _ _ _ _ c.in_ok-write_start.ensures
    (then_written _ _ _ _ _ _ c.in_ok-write_rows.ensures c.write_end.ensures)

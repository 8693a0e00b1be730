use Rattle.page_layout.proofs.Walk.{then_written, failed_before}
use Rattle.event_results.proofs.tables.plays.write_event_plays.Goals as goal

pub returns-in_err-write_titles : goal.returns-in_err-write_titles
returns-in_err-write_titles g c =
    failed_before _ _ _ _ _ c.from_residual.ensures.0 c.in_err-write_titles.ensures

pub returns : goal.returns
returns g c =
    then_written _ _ _ _ _ _ c.in_ok-write_titles.ensures c.write_all_rows.ensures

use Rattle.page_layout.proofs.Walk.{then_written, failed_before}
use Rattle.event_pbn.proofs.scores.write_section_scores.Goals as goal

pub returns-in_err-write_columns : goal.returns-in_err-write_columns
returns-in_err-write_columns g c =
    failed_before _ _ _ _ _ c.from_residual.ensures.0 c.in_err-write_columns.ensures

pub returns : goal.returns
returns g c = then_written _ _ _ _ _ _ c.in_ok-write_columns.ensures c.write_rows.ensures

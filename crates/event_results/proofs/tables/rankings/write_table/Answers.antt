use Rattle.page_layout.proofs.Walk.{then_written, failed_before}
use Rattle.event_results.proofs.tables.rankings.write_table.Goals as goal

pub returns-in_err-write_titles : goal.returns-in_err-write_titles
returns-in_err-write_titles g c =
    failed_before _ _ _ _ _ c.from_residual.ensures.0 c.in_err-write_titles.ensures

pub returns-in_err-write_field : goal.returns-in_err-write_field
returns-in_err-write_field g c =
    then_written _ _ _ _ _ _ c.in_ok-write_titles.ensures
    (failed_before _ _ _ _ _ c.from_residual-in_err-write_field.ensures.0 c.in_err-write_field.ensures)

pub returns : goal.returns
returns g c =
    then_written _ _ _ _ _ _ c.in_ok-write_titles.ensures
    (then_written _ _ _ _ _ _ c.in_ok-write_field.ensures c.write_field-2.ensures)

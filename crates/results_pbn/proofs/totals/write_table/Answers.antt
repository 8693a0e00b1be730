use Rattle.page_layout.proofs.Walk.{then_written, failed_before}
use Rattle.results_pbn.proofs.totals.write_table.Goals as goal

pub returns-in_err-write_columns : goal.returns-in_err-write_columns
returns-in_err-write_columns g c =
    failed_before _ _ _ _ _ c.from_residual.ensures.0 c.in_err-write_columns.ensures

pub returns-in_err-write_field : goal.returns-in_err-write_field
returns-in_err-write_field g c =
    then_written _ _ _ _ _ _ c.in_ok-write_columns.ensures
    (failed_before _ _ _ _ _ c.from_residual-in_err-write_field.ensures.0 (rw c.has_second-two.ensures at c.in_err-write_field.ensures))

pub returns : goal.returns
returns g c =
    then_written _ _ _ _ _ _ c.in_ok-write_columns.ensures
    (then_written _ _ _ _ _ _ (rw c.has_second-two.ensures at c.in_ok-write_field.ensures) (rw c.has_second-two.ensures at c.write_field-2.ensures))

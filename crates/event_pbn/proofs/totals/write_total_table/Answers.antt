use Rattle.page_layout.proofs.Walk.{then_written, failed_before}
use Rattle.event_pbn.proofs.totals.write_total_table.Goals as goal

pub returns-in_err-write_text : goal.returns-in_err-write_text
returns-in_err-write_text g c =
    failed_before _ _ _ _ _ c.from_residual.ensures.0 (rw c.total_columns.ensures at c.in_err-write_text.ensures)

pub returns-in_err-write_rows : goal.returns-in_err-write_rows
returns-in_err-write_rows g c =
    then_written _ _ _ _ _ _ (rw c.total_columns.ensures at c.in_ok-write_text.ensures)
    (failed_before _ _ _ _ _ c.from_residual-in_err-write_rows.ensures.0 (rw c.has_any-two.ensures at c.in_err-write_rows.ensures))

pub returns : goal.returns
returns g c =
    then_written _ _ _ _ _ _ (rw c.total_columns.ensures at c.in_ok-write_text.ensures)
    (then_written _ _ _ _ _ _ (rw c.has_any-two.ensures at c.in_ok-write_rows.ensures) (rw c.has_any-two.ensures at c.write_rows-2.ensures))

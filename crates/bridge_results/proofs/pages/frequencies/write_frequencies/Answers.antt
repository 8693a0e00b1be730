use Rattle.page_layout.proofs.Walk.{then_written, failed_before}
use Rattle.bridge_results.proofs.pages.frequencies.write_frequencies.Goals as goal

pub returns-in_err-write_frequency_titles : goal.returns-in_err-write_frequency_titles
returns-in_err-write_frequency_titles g c =
    failed_before _ _ _ _ _ c.from_residual.ensures.0 c.in_err-write_frequency_titles.ensures

pub returns-in_err-write_frequency_rows : goal.returns-in_err-write_frequency_rows
returns-in_err-write_frequency_rows g c =
    then_written _ _ _ _ _ _ c.in_ok-write_frequency_titles.ensures
    (failed_before _ _ _ _ _ c.from_residual-in_err-write_frequency_rows.ensures.0 c.in_err-write_frequency_rows.ensures)

pub returns : goal.returns
returns g c =
    then_written _ _ _ _ _ _ c.in_ok-write_frequency_titles.ensures
    (then_written _ _ _ _ _ _ c.in_ok-write_frequency_rows.ensures c.write_table_end.ensures)

use Rattle.page_layout.proofs.Walk.{then_written, failed_before}
use Rattle.bridge_results.proofs.pages.board.write_tables.Goals as goal

pub returns-in_err-write_lines : goal.returns-in_err-write_lines
returns-in_err-write_lines g c =
    failed_before _ _ _ _ _ c.from_residual.ensures.0 c.in_err-write_lines.ensures

pub returns-in_err-write_frequencies_of : goal.returns-in_err-write_frequencies_of
returns-in_err-write_frequencies_of g c =
    then_written _ _ _ _ _ _ c.in_ok-write_lines.ensures
    (failed_before _ _ _ _ _ c.from_residual-in_err-write_frequencies_of.ensures.0 c.in_err-write_frequencies_of.ensures)

pub returns : goal.returns
returns g c =
    then_written _ _ _ _ _ _ c.in_ok-write_lines.ensures
    (then_written _ _ _ _ _ _ c.in_ok-write_frequencies_of.ensures c.write_end.ensures)

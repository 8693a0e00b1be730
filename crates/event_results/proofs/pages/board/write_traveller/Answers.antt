use Rattle.page_layout.proofs.Walk.{then_written, failed_before}
use Rattle.event_results.proofs.pages.board.write_traveller.Goals as goal

pub returns-in_err-write_line_titles : goal.returns-in_err-write_line_titles
returns-in_err-write_line_titles g c =
    failed_before _ _ _ _ _ c.from_residual.ensures.0 c.in_err-write_line_titles.ensures

pub returns-in_err-write_lines : goal.returns-in_err-write_lines
returns-in_err-write_lines g c =
    then_written _ _ _ _ _ _ c.in_ok-write_line_titles.ensures
    (failed_before _ _ _ _ _ c.from_residual-in_err-write_lines.ensures.0 c.in_err-write_lines.ensures)

pub returns : goal.returns
returns g c =
    then_written _ _ _ _ _ _ c.in_ok-write_line_titles.ensures
    (then_written _ _ _ _ _ _ c.in_ok-write_lines.ensures c.write_table_end.ensures)

use Rattle.page_layout.proofs.Walk.{then_written, failed_before}
use Rattle.bridge_results.proofs.PageParts.{then_failed}
use Rattle.bridge_results.proofs.html.board.write_played.Goals as goal

pub returns-in_err-write_courses : goal.returns-in_err-write_courses
returns-in_err-write_courses g c =
    then_failed _ _ _ _ _ _ _ c.from_residual-in_err-write_courses.ensures.0 c.in_ok-write_tables_of.ensures c.in_err-write_courses.ensures

pub returns-in_err-write_tables_of : goal.returns-in_err-write_tables_of
returns-in_err-write_tables_of g c = failed_before _ _ _ _ _ c.from_residual.ensures.0 c.in_err-write_tables_of.ensures

pub returns : goal.returns
returns g c =
    then_written _ _ _ _ _ _ c.in_ok-write_tables_of.ensures (then_written _ _ _ _ _ _ c.in_ok-write_courses.ensures c.write_end.ensures)

use Rattle.page_layout.proofs.Walk.{then_written, failed_before}
use Rattle.bridge_results.proofs.html.course.write_course.Goals as goal

pub returns-in_err-write_summary : goal.returns-in_err-write_summary
returns-in_err-write_summary g c =
    failed_before _ _ _ _ _ c.from_residual.ensures.0 c.in_err-write_summary.ensures

pub returns : goal.returns
returns g c = then_written _ _ _ _ _ _ c.in_ok-write_summary.ensures c.write_calls_and_cards.ensures

use Rattle.page_layout.proofs.Walk.{then_written, failed_before}
use Rattle.bridge_results.proofs.html.card.write_top.Goals as goal

pub returns-in_err-write_start : goal.returns-in_err-write_start
returns-in_err-write_start g c =
    failed_before _ _ _ _ _ c.from_residual.ensures.0 c.in_err-write_start.ensures

pub returns : goal.returns
returns g c =
    then_written _ _ _ _ _ _ c.in_ok-write_start.ensures
    (rw (c.as_slice.ensures.value, c.standing_html.ensures) at c.write_text.ensures)

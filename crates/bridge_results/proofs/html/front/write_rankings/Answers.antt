use Rattle.page_layout.proofs.Walk.{then_written, failed_before}
use Rattle.bridge_results.proofs.html.front.write_rankings.Goals as goal

pub returns : goal.returns
returns g c =
    then_written _ _ _ _ _ _ (rw c.first_heading.ensures.text at c.in_ok-write_field.ensures) c.write_field-2.ensures

pub returns-in_err-write_field : goal.returns-in_err-write_field
returns-in_err-write_field g c =
    failed_before _ _ _ _ _ c.from_residual.ensures.0 (rw c.first_heading.ensures.text at c.in_err-write_field.ensures)

use Rattle.page_layout.proofs.Walk.{then_written, failed_before}
use Rattle.evening_draft.proofs.rows.write_shape_and_rows.Goals as goal

pub returns-in_err-write_shape : goal.returns-in_err-write_shape
returns-in_err-write_shape g c = failed_before _ _ _ _ _ c.from_residual.ensures.0 c.in_err-write_shape.ensures

pub returns : goal.returns
returns g c = then_written _ _ _ _ _ _ c.in_ok-write_shape.ensures c.write_rows.ensures

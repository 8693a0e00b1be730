use Rattle.page_layout.proofs.Walk.{then_written, failed_before}
use Rattle.event_pbn.proofs.scores.write_section_row.Goals as goal

pub returns-in_err-write_text : goal.returns-in_err-write_text
returns-in_err-write_text g c =
    failed_before _ _ _ _ _ c.from_residual.ensures.0 (rw (c.as_slice.ensures.value, c.section_cell.ensures.cell) at c.in_err-write_text.ensures)

pub returns : goal.returns
returns g c = then_written _ _ _ _ _ _ (rw (c.as_slice.ensures.value, c.section_cell.ensures.cell) at c.in_ok-write_text.ensures) c.write_row.ensures

use Rattle.event_results.proofs.pages.board.write_line.Goals as goal

pub returns : goal.returns
returns g c = rw (c.as_slice.ensures.value, c.line_row-row.ensures) at c.write_text.ensures

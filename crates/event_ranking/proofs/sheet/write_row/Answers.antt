use Rattle.event_ranking.proofs.sheet.write_row.Goals as goal

pub returns : goal.returns
returns g c = rw (c.as_slice.ensures.value, c.section_row-row.ensures) at c.write_text.ensures

use Rattle.event_pbn.proofs.totals.write_row.Goals as goal

pub returns : goal.returns
returns g c = rw (c.as_slice.ensures.value, c.total_row-row.ensures) at c.write_text.ensures

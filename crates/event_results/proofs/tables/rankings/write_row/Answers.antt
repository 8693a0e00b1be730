use Rattle.event_results.proofs.tables.rankings.write_row.Goals as goal

pub returns : goal.returns
returns g c = rw (c.as_slice.ensures.value, c.ranked_row-row.ensures) at c.write_text.ensures

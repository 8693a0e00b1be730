use Rattle.bridge_results.proofs.tables.rankings.write_row.Goals as goal

pub returns : goal.returns
returns g c = rw (c.as_slice.ensures.value, c.ranked_fields-row.ensures) at c.write_text.ensures

use Rattle.bridge_results.proofs.tables.plays.write_row.Goals as goal

pub returns : goal.returns
returns g c = rw (c.as_slice.ensures.value, c.play_row.ensures) at c.write_text.ensures

use Rattle.event_results.proofs.tables.plays.write_line.Goals as goal

pub returns : goal.returns
returns g c = rw (c.as_slice.ensures.value, c.play_row.ensures) at c.write_text.ensures

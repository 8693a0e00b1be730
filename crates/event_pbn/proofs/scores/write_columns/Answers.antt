use Rattle.event_pbn.proofs.scores.write_columns.Goals as goal

pub returns : goal.returns
returns g c = rw (c.as_slice.ensures.value, c.score_columns.ensures) at c.write_text.ensures

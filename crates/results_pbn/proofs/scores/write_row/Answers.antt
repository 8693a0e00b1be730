use Rattle.results_pbn.proofs.scores.write_row.Goals as goal

pub returns : goal.returns
returns g c = rw (c.as_slice.ensures.value, c.score_row.ensures) at c.write_text.ensures

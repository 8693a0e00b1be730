use Rattle.results_pbn.proofs.optimum.write_optimum.Goals as goal

pub returns : goal.returns
returns g c = rw (c.as_slice.ensures.value, c.optimum_tags.ensures) at c.write_text.ensures

use Rattle.results_pbn.proofs.tags.write_head.Goals as goal

pub returns : goal.returns
returns g c = rw (c.as_slice.ensures.value, c.head_text.ensures) at c.write_text.ensures

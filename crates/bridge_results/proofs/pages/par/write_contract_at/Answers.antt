use Rattle.bridge_results.proofs.pages.par.write_contract_at.Goals as goal

pub returns : goal.returns
returns g c = rw (c.as_slice.ensures.value, c.par_contract_at-text.ensures) at c.write_text.ensures

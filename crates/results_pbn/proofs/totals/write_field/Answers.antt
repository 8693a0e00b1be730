use Rattle.results_pbn.proofs.totals.write_field.Goals as goal

pub returns-in-Some : goal.returns-in-Some
returns-in-Some g c = rw c.in-Some.is (rw c.as_slice.ensures.value at c.write_rows_of.ensures)

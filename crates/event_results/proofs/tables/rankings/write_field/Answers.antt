use Rattle.event_results.proofs.tables.rankings.write_field.Goals as goal

pub returns : goal.returns
returns g c = rw c.scoring_of.ensures at c.write_rows.ensures

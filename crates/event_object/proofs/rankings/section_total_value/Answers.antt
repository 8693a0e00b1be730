use Rattle.event_object.proofs.rankings.section_total_value.Goals as goal

pub returns : goal.returns
returns c = rw c.unplaced.ensures at c.total_value.ensures

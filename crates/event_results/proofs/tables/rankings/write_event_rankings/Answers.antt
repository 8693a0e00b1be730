use Rattle.event_results.proofs.tables.rankings.write_event_rankings.Goals as goal

pub returns : goal.returns
returns g c = (_, _, c.ranking-first.ensures, c.ranking-second.ensures, rw c.sections.ensures.sections at c.write_table.ensures)

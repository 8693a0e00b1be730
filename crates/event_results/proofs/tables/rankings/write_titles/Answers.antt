use Rattle.event_results.specs.EventTables.{ranking_titles}
use Rattle.event_results.proofs.tables.rankings.write_titles.Goals as goal

pub returns : goal.returns
unfolding ranking_titles
returns g c = c.write_text.ensures

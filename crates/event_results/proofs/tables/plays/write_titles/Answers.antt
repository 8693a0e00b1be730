use Rattle.event_results.specs.EventTables.{play_titles}
use Rattle.event_results.proofs.tables.plays.write_titles.Goals as goal

pub returns : goal.returns
unfolding play_titles
returns g c = c.write_text.ensures

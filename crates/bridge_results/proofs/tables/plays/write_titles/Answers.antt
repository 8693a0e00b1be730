use Rattle.bridge_results.specs.TablesText.{play_titles}
use Rattle.bridge_results.proofs.tables.plays.write_titles.Goals as goal

pub returns : goal.returns
unfolding play_titles
returns g c = c.write_text.ensures

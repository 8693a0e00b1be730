use Rattle.bridge_results.specs.TablesText.{ranking_titles}
use Rattle.bridge_results.proofs.tables.rankings.write_titles.Goals as goal

pub returns : goal.returns
unfolding ranking_titles
returns g c = c.write_text.ensures

use Rattle.results_pbn.specs.Totals.{seen}
use Rattle.results_pbn.proofs.games.write_results_games.Goals as goal

pub returns : goal.returns
returns g c = (seen c.totals_of-totals.result, rw c.new-results.ensures at c.totals_of-totals.ensures, c.write_text_with.ensures)

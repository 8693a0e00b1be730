use Rattle.bridge_results.specs.HtmlPage.{cards_start}
use Rattle.bridge_results.proofs.html.cards.write_sheet_start.Goals as goal

pub returns : goal.returns
unfolding cards_start
returns g c = c.write_text.ensures

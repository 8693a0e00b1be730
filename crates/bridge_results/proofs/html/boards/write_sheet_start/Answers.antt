use Rattle.bridge_results.specs.HtmlPage.{boards_start}
use Rattle.bridge_results.proofs.html.boards.write_sheet_start.Goals as goal

pub returns : goal.returns
unfolding boards_start
returns g c = c.write_text.ensures

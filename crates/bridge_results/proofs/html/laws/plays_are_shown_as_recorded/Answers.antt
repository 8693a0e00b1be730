use Rattle.bridge_results.proofs.Shown.{lines_shown}
use Rattle.bridge_results.proofs.html.laws.plays_are_shown_as_recorded.Goals as goal

pub returns : goal.returns
returns c = lines_shown

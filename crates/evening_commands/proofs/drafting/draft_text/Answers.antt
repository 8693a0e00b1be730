use Rattle.evening_commands.specs.NamesView.{list_seen}
use Rattle.evening_commands.proofs.drafting.draft_text.Goals as goal

pub returns : goal.returns
returns g c = (list_seen c.read_list.result, c.read_list.ensures, c.draft_list.ensures)

use Rattle.evening_commands.specs.NamesView.{list_seen}
use Rattle.evening_commands.proofs.making.evening_of_text.Goals as goal

pub returns : goal.returns
returns g c = (list_seen c.read_list.result, c.read_list.ensures, c.evening_of_list.ensures)

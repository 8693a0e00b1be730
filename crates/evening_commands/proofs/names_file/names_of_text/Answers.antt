use Rattle.evening_commands.specs.NamesView.{list_seen}
use Rattle.evening_commands.proofs.names_file.names_of_text.Goals as goal

pub returns : goal.returns
returns c = (list_seen c.read_list.result, c.read_list.ensures, c.fitting.ensures)

use Rattle.evening_commands.specs.Evenings.{NamesOf}
use Rattle.evening_commands.specs.NamesView.{list_seen}
use Rattle.evening_commands.proofs.Files.{of_file}
use Rattle.evening_commands.proofs.names_file.names_of_file.Goals as goal

pub returns : goal.returns
returns g c = of_file _ (NamesOf c.args.pairs (list_seen c.names_found.result)) c.open.result c.names_found.ensures

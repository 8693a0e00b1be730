use Rattle.evening_commands.specs.Evenings.{ListOf}
use Rattle.evening_commands.specs.NamesView.{list_seen}
use Rattle.evening_commands.proofs.Files.{of_file}
use Rattle.evening_commands.proofs.names_file.list_of_file.Goals as goal

pub returns : goal.returns
returns g c = of_file _ (ListOf (list_seen c.list_found.result)) c.open.result c.list_found.ensures

use Rattle.club_commands.specs.ConfigFile.{Begins}
use Rattle.evening_commands.proofs.Files.{of_file}
use Rattle.club_commands.proofs.formatting.session_of_file.Goals as goal

pub returns : goal.returns
returns g c = of_file _ (Begins c.session_found.result) c.open.result c.session_found.ensures

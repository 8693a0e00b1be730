use Rattle.evening_commands.specs.Evenings.{WritesConfig}
use Rattle.std.proofs.Common.{None}
use Rattle.evening_commands.proofs.Files.{into_file}
use Rattle.club_commands.proofs.evening_files.write_config_file.Goals as goal

pub returns : goal.returns
returns g c =
    into_file (λ _. None) (λ file. WritesConfig file c.args.config.now) c.file_beside.result c.config_into.result c.config_into.ensures

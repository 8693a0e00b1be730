use Rattle.evening_commands.specs.Making.{WritesSlipsAt}
use Rattle.std.proofs.Common.{None}
use Rattle.evening_commands.proofs.Files.{into_file}
use Rattle.club_commands.proofs.evening_files.write_slips_file.Goals as goal

pub returns : goal.returns
returns g c =
    into_file (λ _. None) (WritesSlipsAt c.args.evening.now.config c.args.evening.now.names.items c.args.address.now)
    c.file_beside-made.result c.slips_into.result (rw c.as_slice.ensures.value at c.slips_into.ensures)

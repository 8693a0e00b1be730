use Rattle.std.proofs.Common.{inr}
use Rattle.club_commands.proofs.copied.show_opened.Goals as goal

pub returns : goal.returns
returns g c = inr (c.in-Ok-disk_names.names, c.in-Ok-disk_names.ensures, c.show_joined.ensures)

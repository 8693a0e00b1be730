use Rattle.std.proofs.KnownBytes.{Keeps-refl}
use Rattle.club_commands.proofs.over_disk.run_web.Goals as goal

pub returns-in-None : goal.returns-in-None
returns-in-None g c = rw c.in-None.is c.show_tables.ensures

pub returns-in-Some : goal.returns-in-Some
returns-in-Some g c = rw c.in-Some.is (c.show_copied.ensures, Keeps-refl _)

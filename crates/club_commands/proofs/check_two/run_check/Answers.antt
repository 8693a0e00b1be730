use Rattle.std.proofs.KnownBytes.{Keeps-refl}
use Rattle.club_commands.proofs.check_two.run_check.Goals as goal

pub returns-in-None : goal.returns-in-None
returns-in-None g c = rw c.in-None.is c.run_over.ensures

pub returns-in-Some : goal.returns-in-Some
returns-in-Some g c = rw c.in-Some.is (c.check_two.ensures, Keeps-refl _)

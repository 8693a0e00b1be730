use Rattle.std.proofs.KnownBytes.{Keeps-refl}
use Rattle.club_commands.proofs.on_disk.do_work.Goals as goal

pub returns-in-Results : goal.returns-in-Results
returns-in-Results g c = rw c.in-Results.is (c.results_over.ensures, Keeps-refl _)

pub returns-in-Export : goal.returns-in-Export
returns-in-Export g c = rw c.in-Export.is (c.export_over.ensures, Keeps-refl _)

use Rattle.table_server.proofs.CourseLemmas.{cut_law, write_law}
use Rattle.table_server.proofs.power_cut.a_power_cut_keeps_what_is_answered.Goals as goal

pub returns-clause-in_a_write : goal.returns-clause-in_a_write
returns-clause-in_a_write g c = write_law g.D.SectorDisk.disk

pub returns-clause-anywhere : goal.returns-clause-anywhere
returns-clause-anywhere g c = cut_law g.D.SectorDisk.disk

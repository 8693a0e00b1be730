use Rattle.evening_commands.proofs.slipping.slips_found.Goals as goal

pub returns-in-Ok : goal.returns-in-Ok
returns-in-Ok g c = rw c.in-Ok.is (c.slips_read.new.reader, c.slips_read.ensures)

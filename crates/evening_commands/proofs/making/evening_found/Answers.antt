use Rattle.evening_commands.proofs.making.evening_found.Goals as goal

pub returns-in-Ok : goal.returns-in-Ok
returns-in-Ok g c = rw c.in-Ok.is (c.evening_read.new.reader, c.evening_read.ensures)

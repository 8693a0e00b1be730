use Rattle.evening_commands.proofs.names_file.names_found.Goals as goal

pub returns-in-Ok : goal.returns-in-Ok
returns-in-Ok g c = rw c.in-Ok.is (c.names_read.new.reader, c.names_read.ensures)

use Rattle.evening_commands.proofs.names_file.list_found.Goals as goal

pub returns-in-Ok : goal.returns-in-Ok
returns-in-Ok g c = rw c.in-Ok.is (c.list_read.new.reader, c.list_read.ensures)

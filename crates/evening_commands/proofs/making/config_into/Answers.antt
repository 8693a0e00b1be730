use Rattle.evening_commands.proofs.making.config_into.Goals as goal

pub returns-in-Ok : goal.returns-in-Ok
returns-in-Ok g c = rw c.in-Ok.is (c.write_drafted.new.output, c.write_drafted.ensures)

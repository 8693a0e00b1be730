use Rattle.evening_commands.proofs.planning.plan_found.Goals as goal

pub returns-in-Ok : goal.returns-in-Ok
returns-in-Ok g c = rw c.in-Ok.is (c.plan_read.new.reader, c.plan_read.ensures)

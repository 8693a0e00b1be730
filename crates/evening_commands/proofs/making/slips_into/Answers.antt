use Rattle.evening_commands.proofs.making.slips_into.Goals as goal

pub returns-in-Ok : goal.returns-in-Ok
returns-in-Ok g c = rw c.in-Ok.is (c.write_slips_at.new.output, c.write_slips_at.ensures)

use Rattle.evening_commands.proofs.drafting.draft_found.Goals as goal

pub returns-in-Ok : goal.returns-in-Ok
returns-in-Ok g c = rw c.in-Ok.is (c.draft_read.new.reader, c.draft_read.ensures)

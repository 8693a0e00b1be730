use Rattle.club_commands.proofs.formatting.session_found.Goals as goal

pub returns-in-Ok : goal.returns-in-Ok
returns-in-Ok g c = rw c.in-Ok.is (c.read_session.new.reader, c.read_session.ensures)

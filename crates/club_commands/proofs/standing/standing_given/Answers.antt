use Rattle.club_commands.proofs.standing.standing_given.Goals as goal

pub returns-in-Ok : goal.returns-in-Ok
returns-in-Ok c = rw c.in-Ok.is (c.standing_on.new.disk, c.standing_on.ensures)

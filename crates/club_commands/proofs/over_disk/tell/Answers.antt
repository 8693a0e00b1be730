use Rattle.club_commands.proofs.over_disk.tell.Goals as goal

pub returns : goal.returns
returns g c = c.run_over.ensures

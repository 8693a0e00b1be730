use Rattle.club_commands.proofs.makeable.write_makeable.Goals as goal

pub returns : goal.returns
returns g c = (c.run_makeable.result, rw c.form_of.ensures at c.run_makeable.ensures, c.ended.ensures)

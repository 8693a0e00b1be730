use Rattle.club_commands.proofs.evenings.make_slips.Goals as goal

pub returns : goal.returns
returns g c = (c.run_slips.result, c.run_slips.ensures, c.ended.ensures)

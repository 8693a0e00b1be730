use Rattle.club_commands.proofs.listed.refuse_list.Goals as goal

pub returns : goal.returns
returns g c = (c.stop.result, c.stop.ensures, c.ended.ensures)

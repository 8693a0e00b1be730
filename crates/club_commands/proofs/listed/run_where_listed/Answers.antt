use Rattle.club_commands.proofs.listed.run_where_listed.Goals as goal

pub returns : goal.returns
returns g c = (_, c.list_of_file.ensures, c.run_where_found.ensures)

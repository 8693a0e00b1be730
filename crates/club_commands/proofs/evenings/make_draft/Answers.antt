use Rattle.club_commands.proofs.evenings.make_draft.Goals as goal

pub returns : goal.returns
returns g c = (c.run_draft.result, c.run_draft.ensures, c.ended.ensures)

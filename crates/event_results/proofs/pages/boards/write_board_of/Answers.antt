use Rattle.event_results.proofs.pages.boards.write_board_of.Goals as goal

pub returns : goal.returns
returns g c = rw (c.sections.ensures.sections, c.traveller-lines.ensures) at c.write_played.ensures

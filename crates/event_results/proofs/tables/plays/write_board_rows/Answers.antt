use Rattle.event_results.proofs.tables.plays.write_board_rows.Goals as goal

pub returns : goal.returns
returns g c = rw (c.scoring_of-scoring.ensures, c.sections.ensures.sections, c.traveller.ensures) at c.write_rows.ensures

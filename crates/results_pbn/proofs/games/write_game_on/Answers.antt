use Rattle.results_pbn.proofs.games.write_game_on.Goals as goal

pub returns : goal.returns
returns g c = rw (c.as_slice.ensures.value, c.traveller-lines.ensures.lines, c.requires) at c.write_played.ensures

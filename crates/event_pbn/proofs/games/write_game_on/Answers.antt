use Rattle.event_pbn.proofs.games.write_game_on.Goals as goal

pub returns : goal.returns
returns g c = rw c.traveller.ensures at c.write_played.ensures

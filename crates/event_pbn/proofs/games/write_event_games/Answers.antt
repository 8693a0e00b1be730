use Rattle.event_pbn.proofs.games.write_event_games.Goals as goal

pub returns : goal.returns
returns g c = (c.ranking-first.result.now, c.ranking-second.result.now, c.ranking-first.ensures, c.ranking-second.ensures, c.write_text_with.ensures)

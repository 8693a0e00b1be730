use Rattle.bridge_results.proofs.html.cards.write_card_of.Goals as goal

pub returns : goal.returns
returns g c = rw (c.config.ensures, c.as_slice.ensures.value, c.score_card-card.ensures, c.standing_of-standing.ensures.standing, c.requires) at c.write_card_by.ensures

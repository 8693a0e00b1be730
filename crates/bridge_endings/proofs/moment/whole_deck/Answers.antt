use Rattle.std.proofs.Common.{ap, ◌∙◌}
use Rattle.bridge_cards.specs.CardSet.{has_card, card_count}
use Rattle.bridge_endings.proofs.Moments.{whole_deck-has, whole_deck-count}
use Rattle.bridge_endings.proofs.moment.whole_deck.Goals as goal

pub returns-in-Some-clause-all : goal.returns-in-Some-clause-all
returns-in-Some-clause-all c card inside = ap (λ cards. has_card cards card) c.in-Some.ensures.value ∙ whole_deck-has card inside

pub returns-in-Some-clause-count : goal.returns-in-Some-clause-count
returns-in-Some-clause-count c = ap card_count c.in-Some.ensures.value ∙ whole_deck-count

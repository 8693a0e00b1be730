use Rattle.bridge_cards.proofs.CardSetLaws.{has_card-zero}
use Rattle.bridge_cards.proofs.card_set.CardSet.new.Goals as goal

pub returns-clause-cards : goal.returns-clause-cards
returns-clause-cards c = has_card-zero

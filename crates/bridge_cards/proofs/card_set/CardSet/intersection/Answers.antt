use Rattle.bridge_cards.proofs.CardBits.{has_card-and}
use Rattle.bridge_cards.proofs.card_set.CardSet.intersection.Goals as goal

pub returns : goal.returns
returns c = λ card. let both = has_card-and c.self.inside.bits c.other.inside.bits card in cc

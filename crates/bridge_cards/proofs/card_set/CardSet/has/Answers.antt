use Rattle.bridge_cards.proofs.CardBits.{has_card_by_shift}
use Rattle.bridge_cards.proofs.card_set.CardSet.has.Goals as goal

pub returns : goal.returns
returns c = let e = has_card_by_shift c.self.inside.bits c.number.result in cc

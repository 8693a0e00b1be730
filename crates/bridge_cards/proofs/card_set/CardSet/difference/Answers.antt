use Rattle.std.proofs.Common.{arith}
use Rattle.bridge_cards.proofs.CardBits.{has_card-and_not}
use Rattle.bridge_cards.proofs.card_set.CardSet.difference.Goals as goal

pub returns : goal.returns
returns c =
    λ card.
    let both = has_card-and_not c.self.inside.bits c.other.inside.bits card c.self.invariant (omega arith) in cc

use Rattle.std.proofs.Common.{◌*◌, ◌^◌, ◌%◌}
use Rattle.bridge_cards.proofs.CardBits.{has_card-and, has_card-suit}
use Rattle.bridge_cards.proofs.card_set.CardSet.of_suit.Goals as goal

pub returns : goal.returns
returns c =
    λ card.
    let both = has_card-and c.self.inside.bits (8191 * 2 ^ (13 * c.number.result) % 2 ^ 64) card in
    let mask = has_card-suit c.number.result card c.number.ensures.range in
    cc
